use native.Mathlib.Omega.{arith}
use lib.Dec.{lit<}
use mir.Facts.{to_z-of_z}
use Rattle.cosine.specs.Far.{is_far}
use Rattle.cosine.proofs.Numbers.{product-fits}
use Rattle.cosine.proofs.is_far.Goals as goal

pub overflow_mul-result : goal.overflow_mul-result
overflow_mul-result c = let p = c.positive_part-d in product-fits p.result p.result 2147483648 p.ensures.1 p.ensures.1 (lit< tt)

pub overflow_mul-result-2 : goal.overflow_mul-result-2
overflow_mul-result-2 c =
    product-fits c.args.t c.args.squares 4294967295 (omega (arith, c.ranges.t)) (omega (arith, c.ranges.squares)) (lit< tt)

pub returns : goal.returns
unfolding is_far
returns c = rw (c.positive_part-d.ensures.0, to_z-of_z c.ranges.dot)
