use mathlib.Core.Path.{sym, ◌∙◌}
use Rattle.row.specs.Answer.{view_of}
use Rattle.row.proofs.Views.{scaled, unscaled, read_tested, not_tested}
use Rattle.row.proofs.holds.Goals as goal

pub returns-in-Some : goal.returns-in-Some
returns-in-Some g c s n e =
    let a = c.args in
    let t = c.row_check.ensures in
    c.sums_hold.ensures ∙ read_tested a.levels a.metric s n (g.C.Code.codes_of a.codes.now) t.squared t.whole (scaled s n (sym c.in-Some.is ∙ e))

pub returns-in-None : goal.returns-in-None
returns-in-None g c s n e = let a = c.args in sym (not_tested a.levels a.metric (view_of s n (g.C.Code.codes_of a.codes.now)) (unscaled s n (sym c.in-None.is ∙ e)))
