use mathlib.Core.List.{List}
use mathlib.Core.Bool.{Bool}
use Prim.Native.Nat.{ℕ, ◌≤◌}
use lib.ListN.{length}
use Rattle.format.specs.Fields.{segments_of, length_of}
use Rattle.format.proofs.First.{Reached}
use Rattle.manifest.specs.Tiling.{covers, in_segment}
use Rattle.manifest.proofs.Parts.{Held}
use Rattle.manifest.proofs.tiles.Given as goal

abbrev good : List ℕ → ℕ → Bool
good m n = covers m (length_of m n) (in_segment m n)

abbrev pub invariant-loop-n : goal.invariant-loop-n
invariant-loop-n l =
    let m = l.m.bytes.now in
    record { within : l.i ≤ length l.keys; rest : Held m l.keys l.i l.n; tiled : Reached (good m) (segments_of m) l.n }
