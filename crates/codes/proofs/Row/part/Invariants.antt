use Prim.Native.Nat.{◌+◌, ◌-◌}
use Rattle.codes.specs.Sums.{Checked}
use Rattle.codes.proofs.Row.part.Given as goal

abbrev pub invariant-loop-j : goal.invariant-loop-j
invariant-loop-j g l = Checked l.self.levels (l.p + l.j - l.i) (g.C.Code.codes_of l.self.codes.now) l.i l.s
