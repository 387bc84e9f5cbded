use mathlib.Core.Path.{sym, ◌∙◌}
use Rattle.row.proofs.Distances.{finite, not_finite}
use Rattle.row.proofs.measured.Goals as goal

pub returns-then-is_finite : goal.returns-then-is_finite
returns-then-is_finite c = let a = c.args in finite a.place a.x (sym c.is_finite.ensures ∙ c.if-is_finite.true)

pub returns : goal.returns
returns c = let a = c.args in c.refused.ensures ∙ not_finite a.place a.x (sym c.is_finite.ensures ∙ c.if-is_finite.false)
