use mathlib.Core.Path.{refl}
use Rattle.config.specs.Space.{valid_config}
use Rattle.config.proofs.Config.validate.Goals as goal

pub returns : goal.returns
unfolding valid_config
returns c = refl
