use Rattle.std.proofs.Common.{◌≡◌, ◌++◌, take, drop}
use Rattle.math.proofs.widen.Given as goal

abbrev pub invariant-loop-i : goal.invariant-loop-i
invariant-loop-i l = l.out ≡ take l.i l.v ++ drop l.i l.initial.out
