use mathlib.Core.Path.{◌∙◌}
use lib.Ieee.{of_bits}
use mir.Facts.{to_z-of_z}
use Rattle.row.specs.Distance.{cosine_by}
use Rattle.row.proofs.cosine_of.Goals as goal

pub returns : goal.returns
unfolding cosine_by of_bits
returns c =
    c.hold.ensures ∙ rw (c.sqrt.ensures, c.of_integer-2.ensures, c.of_integer.ensures, to_z-of_z c.ranges.n, to_z-of_z c.ranges.d)
