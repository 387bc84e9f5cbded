use mathlib.Core.Path.{refl}
use Rattle.format.specs.Head.{zero_head}
use Rattle.format.proofs.zero_head.Goals as goal

pub returns : goal.returns
unfolding zero_head
returns c = refl
