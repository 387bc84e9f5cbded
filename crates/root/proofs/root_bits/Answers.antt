use lib.Ieee.{binary64, of_bits}
use Rattle.float.proofs.BitLaws.{below-number}
use Rattle.root.proofs.Scales.{ordinary}
use native.Mathlib.Omega.{arith}
use Rattle.root.proofs.root_bits.Goals as goal

pub float_from_bits-x : goal.float_from_bits-x
float_from_bits-x c = below-number binary64 _ (omega arith)

pub invariant_of-guess : goal.invariant_of-guess
invariant_of-guess c = record { ordinary = ordinary _ (omega arith) (omega arith) }

pub returns : goal.returns
returns c = (c.root_bits.ensures.root (of_bits binary64 c.args.bits) c.scale_of-z.ensures, c.root_bits.ensures.bound)
