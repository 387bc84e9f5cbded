use lib.Ieee.{of_bits}
use Rattle.math.specs.Distance.{inverse}
use Rattle.math.proofs.inverse_of.Goals as goal

pub returns-then-root : goal.returns-then-root
unfolding inverse of_bits
returns-then-root c = rw c.if-root.true

pub returns-else-root : goal.returns-else-root
unfolding inverse of_bits
returns-else-root c = rw c.if-root.false
