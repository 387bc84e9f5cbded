use Rattle.codes.specs.Sums.{Summed}
use Rattle.codes.proofs.Pair.first.Given as goal

abbrev pub invariant-loop-j : goal.invariant-loop-j
invariant-loop-j g l = Summed l.self.row.levels l.j (g.C.Code.codes_of l.self.row.codes.now) l.self.query.now 0 l.s
