use native.Mathlib.Omega.{arith}
use mir.Facts.{to_z-of_z}
use Rattle.cosine.proofs.Numbers.{in_range, unsigned, casts}
use Rattle.cosine.proofs.Far.{never}
use Rattle.cosine.proofs.far_limit.Goals as goal

pub overflow_cast-norm : goal.overflow_cast-norm
overflow_cast-norm c =
    let z = c.args.norm in
    let f = to_z-of_z c.ranges.norm in
    let r = in_range z (rw f at c.if-norm.false) in
    rw f (casts z (omega (arith, r.1)) r.0)

pub limit-requires : goal.limit-requires
limit-requires c =
    let f = to_z-of_z c.ranges.norm in
    rw f (in_range c.args.norm (rw f at c.if-norm.false)).1

pub returns : goal.returns
returns c =
    let f = to_z-of_z c.ranges.norm in
    rw (f, unsigned c.args.norm (in_range c.args.norm (rw f at c.if-norm.false)).0) at c.limit.ensures

pub returns-then-norm : goal.returns-then-norm
returns-then-norm c = never _ _
