use mathlib.Core.Path.{◌≡◌}
use lib.ListN.{take}
use Rattle.le.specs.Le.{paste}
use Rattle.api_state.specs.Bytes.{words}
use Rattle.api_state.proofs.put_words.Given as goal

abbrev pub invariant-loop-i : goal.invariant-loop-i
invariant-loop-i l = l.out ≡ paste l.initial.out l.at (words (take l.i l.v))
