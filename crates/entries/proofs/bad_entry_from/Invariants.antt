use Rattle.format.specs.Fields.{rows_of}
use Rattle.entries.specs.Plan.{entry_ok, bad_entry_from}
use Rattle.format.proofs.First.{Seeks}
use Rattle.entries.proofs.bad_entry_from.Given as goal

abbrev pub invariant-loop-row : goal.invariant-loop-row
invariant-loop-row l =
    let m = l.m.bytes.now in Seeks (entry_ok m) (rows_of m) l.row (bad_entry_from m l.first)
