use Rattle.crc32.specs.Tables.{Filled, slot}
use Rattle.crc32.proofs.Tables.new.Given as goal

abbrev pub invariant-loop-i : goal.invariant-loop-i
invariant-loop-i l = Filled slot 2048 l.numbers l.i
