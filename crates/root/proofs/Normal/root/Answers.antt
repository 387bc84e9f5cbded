use lib.Ieee.{Float, binary64, of_bits, to_bits}
use Rattle.root.specs.SquareRoot.{IsRoot}
use Rattle.float.proofs.BitLaws.{below-number, through_bits}
use Rattle.root.proofs.Scales.{at-number}
use Rattle.root.proofs.SquareRoot.{of_bits_lem, of_root}
use native.Mathlib.Omega.{arith}
use Rattle.root.proofs.Normal.root.Goals as goal

pub float_from_bits-result : goal.float_from_bits-result
float_from_bits-result c = below-number binary64 c.in-Some.r (omega (arith, c.in-Some.ensures.1))

-- `c.well_formed` says that the number is one of binary64's
pub returns-in-Some : goal.returns-in-Some
returns-in-Some c =
    let x = c.args.self.value in
    let r = c.in-Some.r in
    let f = c.well_formed.0.1.1.0.1 in
    let n = c.args.self.ordinary in
    of_bits_lem x r f (through_bits (λ (y : Float). IsRoot y (of_bits binary64 r)) x f (at-number (to_bits binary64 x) (of_bits binary64 r) (omega (arith, n.low)) n.high c.in-Some.ensures.0))

pub returns-in-None : goal.returns-in-None
returns-in-None c = of_root c.args.self.value c.general_sqrt.result c.well_formed.0.1.1.0.1 c.general_sqrt.type_inv c.general_sqrt.ensures
