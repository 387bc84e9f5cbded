use mathlib.Core.Path.{sym, ◌∙◌}
use lib.Ieee.{Float, nan, binary64, to_bits, of_bits}
use Rattle.root.specs.SquareRoot.{IsRoot}
use Rattle.float.proofs.BitLaws.{below-number, not_number, through_bits, pattern_lt}
use Rattle.root.proofs.Scales.{nan_root, at_zero, at_infinity, at_minus, at-number}
use native.Mathlib.Omega.{arith}
use Rattle.root.proofs.general_sqrt.Goals as goal

pub returns-then-is_nan : goal.returns-then-is_nan
returns-then-is_nan c = nan_root c.args.x (sym c.is_nan.ensures.value ∙ c.if-is_nan.true)

pub returns-then-bits-eq0 : goal.returns-then-bits-eq0
returns-then-bits-eq0 c =
    through_bits (λ (y : Float). IsRoot y y) c.args.x c.well_formed.0.1 (at_zero (to_bits binary64 c.args.x) c.if-bits-eq0.true)

pub returns-then-bits-gt9223372036854775808 : goal.returns-then-bits-gt9223372036854775808
returns-then-bits-gt9223372036854775808 c =
    rw not_number (through_bits (λ (y : Float). IsRoot y nan) c.args.x c.well_formed.0.1 (at_minus (to_bits binary64 c.args.x) c.if-bits-gt9223372036854775808.true (pattern_lt c.args.x c.well_formed.0.1)))

pub returns-then-bits-ge9218868437227405312 : goal.returns-then-bits-ge9218868437227405312
returns-then-bits-ge9218868437227405312 c =
    through_bits (λ (y : Float). IsRoot y y) c.args.x c.well_formed.0.1 (at_infinity (to_bits binary64 c.args.x) c.if-bits-ge9218868437227405312.true (omega (arith, c.if-bits-eq0.false)))

pub float_from_bits-result : goal.float_from_bits-result
float_from_bits-result c = below-number binary64 c.root_bits.result (omega arith)

pub returns : goal.returns
returns c =
    let r = of_bits binary64 c.root_bits.result in
    through_bits (λ (y : Float). IsRoot y r) c.args.x c.well_formed.0.1
    (at-number (to_bits binary64 c.args.x) r (omega (arith, c.if-bits-eq0.false)) (omega arith) c.root_bits.ensures.0)
