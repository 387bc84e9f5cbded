use Rattle.quantization.specs.Encoder.{scale_by}
use lib.Ieee.{of_bits, of_int}
use mathlib.Core.Path.{refl}
use Rattle.quantization.proofs.Encoder.scale.Goals as goal

pub returns-then-x : goal.returns-then-x
unfolding scale_by of_bits of_int
returns-then-x c = rw (← c.value-x.ensures, c.if-x.true) refl

pub returns : goal.returns
unfolding scale_by of_bits of_int
returns c = rw (← c.value-x.ensures, c.if-x.false) refl
