use mathlib.Core.Path.{◌≡◌, refl, sym, ◌∙◌}
use lib.Ieee.{nan, binary32, of_bits}
use Rattle.float.proofs.BitLaws.{above_nan, below-number}
use Rattle.listing_input.proofs.value.Goals as goal

-- `f32::NAN`
quiet : of_bits binary32 2143289344 ≡ nan
unfolding of_bits
quiet = refl

pub returns-then-bits-gt2139095040 : goal.returns-then-bits-gt2139095040
returns-then-bits-gt2139095040 c = quiet ∙ sym (above_nan binary32 c.args.bits c.if-bits-gt2139095040.true)

pub float_from_bits-result : goal.float_from_bits-result
float_from_bits-result c = below-number binary32 c.args.bits c.if-bits-gt2139095040.false
