use mathlib.Core.Path.{sym, ◌∙◌}
use lib.Ieee.{binary64}
use Rattle.float.proofs.BitLaws.{not_number, above_nan, below-number}
use Rattle.float.proofs.U64Pattern.value.Goals as goal

pub returns-then-self-gt9218868437227405312 : goal.returns-then-self-gt9218868437227405312
returns-then-self-gt9218868437227405312 c = not_number ∙ sym (above_nan binary64 c.args.self c.if-self-gt9218868437227405312.true)

pub float_from_bits-result : goal.float_from_bits-result
float_from_bits-result c = below-number binary64 c.args.self c.if-self-gt9218868437227405312.false
