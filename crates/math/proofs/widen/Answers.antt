use Rattle.std.proofs.Common.{set, ap, ◌∙◌, arith}
use lib.Ieee.{nan}
use Rattle.le.proofs.Pastes.{copy_turn}
use Rattle.math.proofs.widen.Goals as goal

pub loop-i-preserved : goal.loop-i-preserved
loop-i-preserved c =
    let L = c.loop-i in
    let a = c.args in
    let x = c.f32_to_f64_with_nan.result in
    ap (λ o. set o L.i x) L.invariant ∙ copy_turn a.v.now a.out.now L.i nan c.loop-i-test.true (omega arith) c.f32_to_f64_with_nan.ensures
