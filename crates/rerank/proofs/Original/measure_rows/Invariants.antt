use mathlib.Core.Path.{◌≡◌}
use Prim.Native.Nat.{◌-◌, ◌≤◌}
use lib.ListN.{length}
use Rattle.rerank.proofs.Measured.{KeysTo}
use Rattle.rerank.proofs.Original.measure_rows.Given as goal

abbrev pub invariant-loop-i : goal.invariant-loop-i
invariant-loop-i l =
    (l.i ≤ length l.rs) × (l.measured ≡ l.i) × (length l.ks ≡ length l.initial.ks)
    × KeysTo l.self.library.manifest.bytes.now l.self.library.segments.now l.self.query.coordinates.now l.rs l.i l.ks

abbrev pub decreases-loop-i : goal.decreases-loop-i
decreases-loop-i l = length l.rs - l.i
