use lib.Ieee.{of_bits}
use mathlib.Core.Path.{refl}
use Rattle.quantization.proofs.held.Goals as goal

pub returns-then-x-top : goal.returns-then-x-top
unfolding of_bits
returns-then-x-top c = rw c.if-x-top.true refl

pub returns-else-x-top : goal.returns-else-x-top
unfolding of_bits
returns-else-x-top c = rw c.if-x-top.false refl
