use mathlib.Core.Path.{◌≡◌}
use Prim.Native.Nat.{◌+◌, ◌*◌}
use lib.ListN.{length}
use Rattle.le.specs.Le.{paste}
use Rattle.quantization.specs.Encoder.{midpoints_of}
use Rattle.encoded_rows.specs.Rows.{rows_bytes}
use Rattle.encoded_rows.proofs.put_rows.Given as goal

abbrev pub invariant-loop-row : goal.invariant-loop-row
invariant-loop-row l =
    let e = l.encoder.levels in
    record {
      from : l.from ≡ l.at + l.row * l.size;
      length : length l.cache ≡ length l.initial.cache;
      written : l.cache ≡ paste l.initial.cache l.at (rows_bytes e (midpoints_of e) l.library.manifest.bytes.now l.library.segments.now l.row);
    }
