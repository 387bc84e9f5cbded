use native.Mathlib.Omega.{arith}
use mir.Facts.{to_z-of_z}
use Rattle.codes.proofs.Numbers.{sum_fits, sum_held}
use Rattle.codes.proofs.add_code.Goals as goal

pub returns : goal.returns
returns c =
    let p = rw (to_z-of_z c.ranges.x, to_z-of_z c.ranges.y) at c.product.ensures in
    record {
      dotted = rw (sum_held c.args.s.dot c.product.result (omega (arith, c.requires, p.1)), p.0);
      size = rw p.0 at p.1;
      checked = rw (to_z-of_z c.ranges.x) at c.add_code_check.ensures;
    }

pub product-requires : goal.product-requires
product-requires c = rw (to_z-of_z c.ranges.y) c.requires.y_bound

pub overflow_add-result : goal.overflow_add-result
overflow_add-result c = sum_fits c.args.s.dot c.product.result (omega (arith, c.requires, c.product.ensures))
