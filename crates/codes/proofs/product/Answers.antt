use mathlib.Core.Path.{refl}
use mir.Syntax.{w32}
use mir.Facts.{to_z-of_z}
use Rattle.codes.proofs.Numbers.{wide_fits, widened, product-size, product-fits}
use Rattle.codes.proofs.product.Goals as goal

pub overflow_mul-result : goal.overflow_mul-result
overflow_mul-result c = product-fits (widened w32 tt c.ranges.x) (widened w32 tt c.ranges.y) c.ranges.x c.requires

pub returns : goal.returns
returns c = rw (to_z-of_z (overflow_mul-result c), widened w32 tt c.ranges.x, widened w32 tt c.ranges.y) (refl, product-size c.args.y c.ranges.x c.requires)

pub overflow_cast-result : goal.overflow_cast-result
overflow_cast-result c = wide_fits w32 tt c.ranges.x

pub overflow_cast-result-2 : goal.overflow_cast-result-2
overflow_cast-result-2 c = wide_fits w32 tt c.ranges.y
