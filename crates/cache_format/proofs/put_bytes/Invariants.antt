use mathlib.Core.Path.{◌≡◌}
use lib.ListN.{length}
use lib.Seq.{paste as copied}
use Rattle.cache_format.proofs.put_bytes.Given as goal

abbrev pub invariant-loop-i : goal.invariant-loop-i
invariant-loop-i l = (length l.cache ≡ length l.initial.cache) × (l.cache ≡ copied l.initial.cache l.at l.s l.i)
