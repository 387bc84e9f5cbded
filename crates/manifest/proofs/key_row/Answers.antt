use mathlib.Core.Path.{refl}
use Rattle.manifest.specs.Scratch.{key_row}
use Rattle.manifest.proofs.key_row.Goals as goal

pub returns : goal.returns
unfolding key_row
returns c = refl
