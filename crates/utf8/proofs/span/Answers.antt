use mathlib.Core.Path.{refl}
use Rattle.utf8.specs.Grammar.{span}
use Rattle.utf8.proofs.span.Goals as goal

pub returns : goal.returns
unfolding span
returns c = refl
