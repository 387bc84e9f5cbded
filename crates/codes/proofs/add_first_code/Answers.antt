use mathlib.Core.Path.{refl}
use native.Mathlib.Omega.{arith}
use lib.IntN.{◌*ℤ◌}
use mir.Syntax.{w32}
use mir.Facts.{to_z-of_z}
use Rattle.codes.proofs.Numbers.{square_size, wide_fits, widened, widened_code, widened_twice, product-size, product-fits, square_fits, square_held, sum_fits, sum_held}
use Rattle.codes.proofs.Rows.{code-checked}
use Rattle.codes.proofs.add_first_code.Goals as goal

pub returns : goal.returns
returns c =
    let f = c.ranges.x in
    let p = product-size c.args.y f c.requires.y_bound in
    let e = widened_twice f c.widened-z.ensures in
    record {
      dotted =
          rw (e, widened w32 tt c.ranges.y)
          (sum_held c.args.s.dot (c.args.x *ℤ c.args.y) (omega (arith, c.requires, p)));
      size = p;
      checked = code-checked (to_z-of_z f) (rw (square_held e f, to_z-of_z f) (refl, square_size f)) c.within.ensures;
    }

pub overflow_cast-z : goal.overflow_cast-z
overflow_cast-z c = wide_fits w32 tt (widened_code c.ranges.x c.widened-z.ensures)

pub overflow_cast-result : goal.overflow_cast-result
overflow_cast-result c = wide_fits w32 tt c.ranges.y

pub overflow_mul-result : goal.overflow_mul-result
overflow_mul-result c = product-fits (widened_twice c.ranges.x c.widened-z.ensures) (widened w32 tt c.ranges.y) c.ranges.x c.requires.y_bound

pub overflow_add-result : goal.overflow_add-result
overflow_add-result c =
    rw (widened_twice c.ranges.x c.widened-z.ensures, widened w32 tt c.ranges.y)
    (sum_fits c.args.s.dot (c.args.x *ℤ c.args.y) (omega (arith, c.requires, product-size c.args.y c.ranges.x c.requires.y_bound)))

pub overflow_mul-result-2 : goal.overflow_mul-result-2
overflow_mul-result-2 c = square_fits (widened_twice c.ranges.x c.widened-z.ensures) c.ranges.x

pub overflow_cast-result-2 : goal.overflow_cast-result-2
overflow_cast-result-2 c =
    let f = c.ranges.x in rw (square_held (widened_twice f c.widened-z.ensures) f) (tt, omega (arith, square_size f))

pub overflow_add-result-2 : goal.overflow_add-result-2
overflow_add-result-2 c =
    let f = c.ranges.x in rw (square_held (widened_twice f c.widened-z.ensures) f) (omega (arith, c.requires, square_size f))
