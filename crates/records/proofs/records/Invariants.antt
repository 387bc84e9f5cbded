use Rattle.std.proofs.Common.{◌≡◌}
use Rattle.records.proofs.Lists.{upto}
use Rattle.records.proofs.records.Given as goal

abbrev pub invariant-loop-i : goal.invariant-loop-i
invariant-loop-i l = l.out ≡ upto l.ids l.distances l.rows l.initial.out l.i
