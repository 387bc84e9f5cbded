use native.Mathlib.Omega.{arith}
use mathlib.Core.Path.{refl, ap, ◌∙◌}
use lib.ListN.{length-set, set, get_or}
use Rattle.le.proofs.Pastes.{copy_turn}
use Rattle.le.proofs.copy.Goals as goal

pub loop-i-preserved : goal.loop-i-preserved
loop-i-preserved c =
    let L = c.loop-i in
    (length-set L.to L.i _ ∙ L.invariant.0, ap (λ w. set w L.i (get_or c.args.from.now L.i 0)) L.invariant.1 ∙ copy_turn c.args.from.now c.args.to.now L.i 0 c.loop-i-test.true (omega (arith, c.requires, c.loop-i-test.true)) refl)
