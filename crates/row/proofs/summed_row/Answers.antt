use mathlib.Core.Path.{sym, ◌∙◌}
use Rattle.row.specs.Answer.{answer}
use Rattle.row.proofs.summed_row.Goals as goal

pub returns : goal.returns
unfolding answer
returns c = rw (sym c.scale_holds.ensures ∙ c.if-scale_holds.false) c.refused.ensures
