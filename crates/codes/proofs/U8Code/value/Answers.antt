use mathlib.Core.Path.{◌∙◌}
use Rattle.codes.proofs.Numbers.{held8, signed_is}
use Rattle.codes.proofs.U8Code.value.Goals as goal

pub returns : goal.returns
returns c = let z = c.cast_signed in held8 {x = z.result} z.type_inv ∙ z.ensures ∙ signed_is c.args.self
