use mir.Facts.{to_z-of_z}
use Rattle.row.specs.Distance.{inner_product}
use Rattle.row.proofs.inner_product.Goals as goal

pub returns : goal.returns
unfolding inner_product
returns c = rw (c.of_integer.ensures, to_z-of_z c.ranges.d)
