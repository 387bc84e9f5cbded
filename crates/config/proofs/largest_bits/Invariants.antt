use Rattle.config.proofs.Vectors.{Largest}
use Rattle.config.proofs.largest_bits.Given as goal

abbrev pub invariant-loop-i : goal.invariant-loop-i
invariant-loop-i l = Largest l.n l.s l.at l.i l.most
