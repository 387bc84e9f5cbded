use mathlib.Core.Bool.{Bool}
use mathlib.Core.List.{List, map}
use Prim.Native.Nat.{ℕ}
use lib.ListN.{length, get_or}
use Rattle.format.proofs.First.{Seeks}
use Rattle.manifest.specs.Scratch.{key_row}
use Rattle.segment.specs.Record.{record_ok}
use Rattle.segment.specs.Check.{bad_record}
use Rattle.segment.proofs.Library.bad_record.Given as goal

abbrev good : List ℕ → List ℕ → List ℕ → ℕ → Bool
good m s keys i = record_ok m s (get_or (map key_row keys) i 0)

abbrev pub invariant-loop-i : goal.invariant-loop-i
invariant-loop-i l =
    let m = l.self.manifest.bytes.now in
    let s = l.self.segments.now in
    Seeks (good m s l.keys) (length l.keys) l.i (bad_record m s (map key_row l.keys))
