use Rattle.format.specs.Fields.{rows_of}
use Rattle.format.proofs.First.{Reached}
use Rattle.segment.specs.Record.{record_ok}
use Rattle.encoded_rows.proofs.bad_row.Given as goal

abbrev pub invariant-loop-row : goal.invariant-loop-row
invariant-loop-row l = let m = l.library.manifest.bytes.now in Reached (record_ok m l.library.segments.now) (rows_of m) l.row
