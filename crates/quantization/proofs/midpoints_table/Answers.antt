use Rattle.quantization.specs.Encoder.{midpoints_of}
use lib.Ieee.{of_bits}
use mathlib.Core.Path.{refl}
use Rattle.quantization.proofs.midpoints_table.Goals as goal

pub returns : goal.returns
unfolding midpoints_of of_bits
returns c = refl
