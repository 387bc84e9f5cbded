use Rattle.math.specs.Sums.{dot_step}
use Rattle.math.proofs.Folds.{Kept}
use Rattle.math.proofs.inverse_norm.Given as goal

abbrev pub invariant-loop-x : goal.invariant-loop-x
invariant-loop-x l = Kept dot_step l.q l.q l.x-index l.norm
