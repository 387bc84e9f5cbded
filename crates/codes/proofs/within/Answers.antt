use native.Mathlib.Omega.{arith}
use mir.Syntax.{w32}
use Rattle.codes.proofs.Numbers.{wide_fits, raised-size, raised-fits, raised-held, beyond}
use Rattle.codes.proofs.within.Goals as goal

pub overflow_cast-result-2 : goal.overflow_cast-result-2
overflow_cast-result-2 c = rw (raised-held c.ranges.x) (tt, omega (arith, raised-size c.args.x c.ranges.x))

pub overflow_add-result-2 : goal.overflow_add-result-2
overflow_add-result-2 c = rw (raised-held c.ranges.x) (omega (arith, raised-size c.args.x c.ranges.x, c.requires))

pub returns : goal.returns
returns c = rw (raised-held c.ranges.x) (beyond c.args.x c.args.levels c.ranges.x c.requires)

pub overflow_cast-result : goal.overflow_cast-result
overflow_cast-result c = wide_fits w32 tt c.ranges.x

pub overflow_add-result : goal.overflow_add-result
overflow_add-result c = raised-fits c.ranges.x
