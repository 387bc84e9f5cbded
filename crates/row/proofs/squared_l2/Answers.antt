use mathlib.Core.Path.{◌∙◌}
use lib.Ieee.{of_bits}
use mir.Facts.{to_z-of_z}
use Rattle.row.specs.Distance.{squared_l2}
use Rattle.row.proofs.squared_l2.Goals as goal

pub returns : goal.returns
unfolding squared_l2 of_bits
returns c =
    c.max_zero.ensures
    ∙ rw (c.of_integer.ensures, c.of_integer-2.ensures, c.of_integer-3.ensures, to_z-of_z c.ranges.n, to_z-of_z c.ranges.qn, to_z-of_z c.ranges.d)
