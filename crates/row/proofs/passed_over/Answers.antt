use Rattle.row.specs.Answer.{answer}
use Rattle.row.proofs.passed_over.Goals as goal

pub returns-then-valid : goal.returns-then-valid
unfolding answer
returns-then-valid c = rw c.if-valid.true

pub returns : goal.returns
unfolding answer
returns c = rw c.if-valid.false c.refused.ensures
