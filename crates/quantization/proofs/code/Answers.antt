use Rattle.quantization.proofs.Codes.{minus_is, signed-fits}
use mir.Facts.{to_z-of_z}
use mathlib.Core.Bool.{true, false}
use borrow.Author.Tests.{le-leb, lt-leb}
use Rattle.quantization.proofs.code.Goals as goal

pub overflow_sub-result : goal.overflow_sub-result
overflow_sub-result c = rw (minus_is c.args.m c.requires) (signed-fits true c.args.m c.requires)

pub returns-then-b-ge2147483648 : goal.returns-then-b-ge2147483648
returns-then-b-ge2147483648 c =
    rw (le-leb 2147483648 c.args.b c.if-b-ge2147483648.true, minus_is c.args.m c.requires) (to_z-of_z (signed-fits true c.args.m c.requires))

pub returns-else-b-ge2147483648 : goal.returns-else-b-ge2147483648
returns-else-b-ge2147483648 c = rw (lt-leb 2147483648 c.args.b c.if-b-ge2147483648.false) (to_z-of_z (signed-fits false c.args.m c.requires))
