use lib.Ieee.{binary64}
use Rattle.float.proofs.BitLaws.{below-number}
use native.Mathlib.Omega.{arith}
use Rattle.root.proofs.Normal.guess.Goals as goal

pub float_from_bits-y0 : goal.float_from_bits-y0
float_from_bits-y0 c = below-number binary64 _ (omega arith)
