use mathlib.Core.Bool.{and-true}
use Rattle.config.specs.Space.{valid_config}
use Rattle.config.proofs.validate_dimensions.Goals as goal

pub returns : goal.returns
unfolding valid_config
returns c = simp and-true
