use mathlib.Core.Path.{◌∙◌}
use Rattle.row.proofs.Views.{tested}
use Rattle.scan.proofs.ResidentRowsRows.holds.Goals as goal

pub returns : goal.returns
returns c =
    let a = c.args in
    let t = c.row_check-codes.ensures in
    let r = c.scale_and_norm.result in
    rw (c.scale_and_norm.ensures.0, c.scale_and_norm.ensures.1, c.resident_codes.ensures.values) at (c.valid.ensures ∙ tested a.levels a.metric r.scale r.norm c.resident_codes.result.now t.squared t.whole)
