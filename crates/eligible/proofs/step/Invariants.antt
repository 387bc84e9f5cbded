use Rattle.eligible.specs.Walk.{Behind}
use Rattle.eligible.proofs.step.Given as goal

abbrev pub invariant-loop-at : goal.invariant-loop-at
invariant-loop-at l = Behind l.sorted l.at l.id
