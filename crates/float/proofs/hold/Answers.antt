use lib.Ieee.{of_bits}
use Rattle.float.specs.Hold.{clamp}
use Rattle.float.proofs.hold.Goals as goal

pub returns-then-x : goal.returns-then-x
unfolding clamp of_bits
returns-then-x c = rw c.if-x.true

pub returns-then-x-2 : goal.returns-then-x-2
unfolding clamp of_bits
returns-then-x-2 c = rw (c.if-x.false, c.if-x-2.true)

pub returns : goal.returns
unfolding clamp of_bits
returns c = rw (c.if-x.false, c.if-x-2.false)
