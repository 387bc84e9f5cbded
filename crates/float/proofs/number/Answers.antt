use mathlib.Core.Path.{sym, ◌∙◌}
use Rattle.float.proofs.BitLaws.{number_finite, number_not}
use Rattle.float.proofs.number.Goals as goal

pub returns-then-is_finite : goal.returns-then-is_finite
returns-then-is_finite g c = rw c.value.ensures (sym (number_finite _ (sym c.is_finite.ensures ∙ c.if-is_finite.true)))

pub returns-else-is_finite : goal.returns-else-is_finite
returns-else-is_finite g c = sym (number_not _ (sym c.is_finite.ensures ∙ c.if-is_finite.false))
