use Prim.Native.Nat.{◌+◌, ◌-◌}
use Rattle.codes.specs.Sums.{Summed}
use Rattle.codes.proofs.Pair.part.Given as goal

abbrev pub invariant-loop-j : goal.invariant-loop-j
invariant-loop-j g l = Summed l.self.row.levels (l.p + l.j - l.i) (g.C.Code.codes_of l.self.row.codes.now) l.self.query.now l.i l.s
