use Prim.Native.Nat.{◌+◌, ◌%◌, ◌<◌}
use mathlib.Core.Path.{◌≡◌}
use Rattle.codes.specs.Sums.{Checked}
use Rattle.codes.proofs.Row.check.Given as goal

abbrev pub invariant-loop-r : goal.invariant-loop-r
invariant-loop-r g l = (l.i + l.r ≡ l.n) × (l.r % 32 < 16) × Checked l.self.levels l.i (g.C.Code.codes_of l.self.codes.now) 0 l.s

abbrev pub decreases-loop-r : goal.decreases-loop-r
decreases-loop-r g l = l.r

abbrev pub invariant-loop-r-then-r-ge32 : goal.invariant-loop-r-then-r-ge32
invariant-loop-r-then-r-ge32 g l = (l.i + l.r ≡ l.n) × (l.r % 32 < 16) × Checked l.self.levels l.i (g.C.Code.codes_of l.self.codes.now) 0 l.s

abbrev pub decreases-loop-r-then-r-ge32 : goal.decreases-loop-r-then-r-ge32
decreases-loop-r-then-r-ge32 g l = l.r

abbrev pub invariant-loop-r-then-r-ge32-2 : goal.invariant-loop-r-then-r-ge32-2
invariant-loop-r-then-r-ge32-2 g l = (l.i + l.r ≡ l.n) × (l.r % 32 < 16) × Checked l.self.levels l.i (g.C.Code.codes_of l.self.codes.now) 0 l.s

abbrev pub decreases-loop-r-then-r-ge32-2 : goal.decreases-loop-r-then-r-ge32-2
decreases-loop-r-then-r-ge32-2 g l = l.r
