use Rattle.codes.specs.Sums.{Checked}
use Rattle.codes.proofs.Row.ones.Given as goal

abbrev pub invariant-loop-j : goal.invariant-loop-j
invariant-loop-j g l = Checked l.self.levels l.j (g.C.Code.codes_of l.self.codes.now) 0 l.s
