use native.Mathlib.Omega.{arith}
use Rattle.codes.proofs.Numbers.{abs_add, sum_fits, sum_held}
use Rattle.codes.proofs.add_sums.Goals as goal

pub overflow_add-result : goal.overflow_add-result
overflow_add-result c = sum_fits c.args.a.dot c.args.b.dot (omega (arith, c.requires))

pub returns : goal.returns
returns c =
    let e = sum_held c.args.a.dot c.args.b.dot (omega (arith, c.requires)) in
    record { dotted = e; size = rw e (abs_add c.args.a.dot c.args.b.dot); checked = c.add_checks.ensures }
