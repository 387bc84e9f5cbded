use mathlib.Core.Path.{◌∙◌}
use Rattle.std.proofs.lemmas.Result.{err_from_is_err_and}
use Rattle.config.proofs.Numbers.{some_number}
use Rattle.rerank.proofs.Measured.{refuses, measured_all}
use Rattle.rerank.proofs.Original.measure_rows.Goals as goal

pub returns-in_err-ks-in-None : goal.returns-in_err-ks-in-None
returns-in_err-ks-in-None c =
    let p = err_from_is_err_and c.from_residual.result c.from_residual.ensures.1 in
    let r = c.in_err-ks-in-None.field-0.0 in
    rw (p.1, p.2) (refuses c.loop-i.invariant.3 c.loop-i-test.true (some_number r.number) c.in_err-ks-in-None.ensures.refused)

pub returns : goal.returns
returns c =
    let I = c.loop-i.invariant in
    measured_all I.3 I.1 I.0 c.loop-i-test.false (I.2 ∙ c.requires.1)
