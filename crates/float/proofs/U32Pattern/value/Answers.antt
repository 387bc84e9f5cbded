use mathlib.Core.Path.{sym, ◌∙◌}
use lib.Ieee.{binary32}
use Rattle.float.proofs.BitLaws.{not_number, above_nan, below-number}
use Rattle.float.proofs.U32Pattern.value.Goals as goal

pub returns-then-self-gt2139095040 : goal.returns-then-self-gt2139095040
returns-then-self-gt2139095040 c = not_number ∙ sym (above_nan binary32 c.args.self c.if-self-gt2139095040.true)

pub float_from_bits-self : goal.float_from_bits-self
float_from_bits-self c = below-number binary32 c.args.self c.if-self-gt2139095040.false
