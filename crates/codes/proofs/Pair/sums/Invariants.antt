use Prim.Native.Nat.{◌+◌, ◌%◌, ◌<◌}
use mathlib.Core.Path.{◌≡◌}
use Rattle.codes.specs.Sums.{Summed}
use Rattle.codes.proofs.Pair.sums.Given as goal

abbrev pub invariant-loop-r : goal.invariant-loop-r
invariant-loop-r g l = (l.i + l.r ≡ l.n) × (l.r % 64 < 16) × Summed l.self.row.levels l.i (g.C.Code.codes_of l.self.row.codes.now) l.self.query.now 0 l.s

abbrev pub decreases-loop-r : goal.decreases-loop-r
decreases-loop-r g l = l.r
