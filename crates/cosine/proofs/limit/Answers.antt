use native.Mathlib.Omega.{arith}
use lib.Dec.{lit<}
use lib.IntN.{pos}
use lib.Ieee.{of_bits}
use Rattle.float.proofs.BitLaws.{finite_number}
use Rattle.row.proofs.Distances.{in_float_lem}
use Rattle.cosine.proofs.Numbers.{cube, product-fits}
use Rattle.cosine.proofs.Far.{never, far, step_finite}
use Rattle.cosine.proofs.limit.Goals as goal

pub key-requires : goal.key-requires
unfolding of_bits
key-requires c = finite_number _ (step_finite c.guess-g.result c.guess-g.ensures)

pub overflow_mul-u : goal.overflow_mul-u
overflow_mul-u c =
    let g = c.guess-g in
    product-fits g.result g.result 65535 (omega (arith, g.ensures)) (omega (arith, g.ensures)) (lit< tt)

pub returns-then-u-gt0 : goal.returns-then-u-gt0
unfolding of_bits
returns-then-u-gt0 c =
    let g = c.guess-g in
    far c.args.norm g.result c.args.worst c.requires g.ensures c.if-u-gt0.true (rw c.key.ensures at c.if-worst-key.true)

pub int_to_float-g : goal.int_to_float-g
int_to_float-g c = in_float_lem (pos _) (omega (arith, c.guess-g.ensures))

pub overflow_mul-u-then-worst-key : goal.overflow_mul-u-then-worst-key
overflow_mul-u-then-worst-key c = record { fits = omega (arith, cube _ _ c.guess-g.ensures c.requires) }

pub overflow_cast-result : goal.overflow_cast-result
overflow_cast-result c = record { fits = omega (arith, cube _ _ c.guess-g.ensures c.requires) }

pub returns-else-u-gt0 : goal.returns-else-u-gt0
returns-else-u-gt0 c = never _ _

pub returns-else-worst-key : goal.returns-else-worst-key
returns-else-worst-key c = never _ _
