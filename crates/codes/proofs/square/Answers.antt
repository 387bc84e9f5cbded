use mathlib.Core.Path.{refl}
use native.Mathlib.Omega.{arith}
use mir.Syntax.{w32}
use Rattle.codes.proofs.Numbers.{square_size, wide_fits, widened, square_fits, square_held}
use Rattle.codes.proofs.square.Goals as goal

pub overflow_cast-result : goal.overflow_cast-result
overflow_cast-result c = rw (square_held (widened w32 tt c.ranges.x) c.ranges.x) (tt, omega (arith, square_size c.ranges.x))

pub returns : goal.returns
returns c = rw (square_held (widened w32 tt c.ranges.x) c.ranges.x) (refl, square_size c.ranges.x)

pub overflow_cast-z : goal.overflow_cast-z
overflow_cast-z c = wide_fits w32 tt c.ranges.x

pub overflow_mul-result : goal.overflow_mul-result
overflow_mul-result c = square_fits (widened w32 tt c.ranges.x) c.ranges.x
