use mathlib.Core.Path.{◌∙◌}
use Rattle.float.proofs.BitLaws.{same_finite}
use Rattle.float.proofs.is_finite.Goals as goal

pub returns : goal.returns
returns c = c.is_finite.ensures.value ∙ same_finite c.args.x
