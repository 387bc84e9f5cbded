use Rattle.quantization.proofs.Coordinates.{Largest}
use Rattle.quantization.proofs.largest_bits.Given as goal

abbrev pub invariant-loop-i : goal.invariant-loop-i
invariant-loop-i g l = Largest (g.S.Source.patterns l.source) l.i l.most
