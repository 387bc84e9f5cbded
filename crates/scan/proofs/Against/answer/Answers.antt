use mathlib.Core.Path.{sym, ◌∙◌}
use Rattle.row.specs.Answer.{answer}
use Rattle.row.proofs.Views.{scaled, unscaled, parts}
use Rattle.scan.proofs.Against.answer.Goals as goal

pub returns-in-Some : goal.returns-in-Some
returns-in-Some c s n e = let I = scaled s n (sym c.in-Some.is ∙ e) in rw (I.scale, I.norm) at c.summed_row.ensures

pub returns-in-None : goal.returns-in-None
unfolding answer
returns-in-None c s n e =
    let a = c.args in
    let k = a.sums.check in
    rw (parts a.self.levels a.self.metric s n k.squares k.whole, unscaled s n (sym c.in-None.is ∙ e)) c.passed_over.ensures
