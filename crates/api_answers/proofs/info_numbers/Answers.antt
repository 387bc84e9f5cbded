use mathlib.Core.Path.{refl}
use Rattle.api_answers.specs.Numbers.{info_numbers}
use Rattle.api_answers.proofs.info_numbers.Goals as goal

pub returns : goal.returns
unfolding info_numbers
returns c =
    refl
