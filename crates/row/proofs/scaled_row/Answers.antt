use native.Mathlib.Omega.{arith}
use mathlib.Core.Path.{sym, ap, ◌∙◌}
use mir.Syntax.{w32}
use mir.Facts.{to_z-of_z}
use Rattle.row.specs.Answer.{measured, answer}
use Rattle.row.proofs.scaled_row.Goals as goal

pub returns-then-sums_hold : goal.returns-then-sums_hold
unfolding answer
returns-then-sums_hold c =
    let a = c.args in
    rw (sym c.sums_hold.ensures ∙ c.if-sums_hold.true)
    (c.measured.ensures ∙ ap (measured a.place) (rw (to_z-of_z {w = w32} {z = a.sums.dot} (record { sfits = omega arith })) at c.approximate_distance.ensures))

pub returns : goal.returns
unfolding answer
returns c = rw (sym c.sums_hold.ensures ∙ c.if-sums_hold.false) c.refused.ensures
