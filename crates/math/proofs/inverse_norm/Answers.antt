use Rattle.std.proofs.Common.{refl}
use lib.Ieee.{neg, of_bits}
use Rattle.math.proofs.Folds.{kept-start, kept_turn, kept_done}
use Rattle.math.proofs.inverse_norm.Goals as goal

pub loop-x-init : goal.loop-x-init
unfolding neg of_bits
loop-x-init c = kept-start

pub loop-x-preserved : goal.loop-x-preserved
loop-x-preserved c = let h = c.loop-x-test.true in kept_turn h h refl refl c.loop-x.invariant

pub returns : goal.returns
returns c = rw (← kept_done c.loop-x-test.false c.loop-x.invariant) c.inverse_root.ensures
