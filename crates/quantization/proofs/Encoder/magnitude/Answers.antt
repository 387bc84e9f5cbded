use Rattle.quantization.proofs.Coordinates.{code-abs, code-plain}
use Rattle.float.proofs.Patterns.{small-bits}
use Rattle.float.proofs.BitLaws.{below-number, widens}
use Prim.Native.Nat.{◌%◌}
use lib.Ieee.{binary32}
use native.Mathlib.Omega.{arith}
use Rattle.quantization.proofs.Encoder.magnitude.Goals as goal

pub float_from_bits-x : goal.float_from_bits-x
float_from_bits-x c = below-number binary32 (c.args.b % 2147483648) (omega (arith, small-bits binary32 c.args.b c.requires.0))

pub float_to_float-x : goal.float_to_float-x
float_to_float-x c =
    widens (c.args.b % 2147483648) (below-number binary32 (c.args.b % 2147483648) (omega (arith, small-bits binary32 c.args.b c.requires.0)))

pub walk-requires : goal.walk-requires
walk-requires c = code-plain c.args.b c.args.scale c.requires.0 c.requires.1

pub returns : goal.returns
returns c = rw (code-abs c.args.b c.args.scale c.requires.0 c.requires.1) c.walk.ensures
