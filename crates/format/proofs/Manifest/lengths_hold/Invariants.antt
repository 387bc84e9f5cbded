use mathlib.Core.Bool.{Bool}
use mathlib.Core.List.{List}
use Prim.Native.Nat.{ℕ}
use Rattle.config.specs.Limits.{max_segment_bytes}
use Rattle.utf8.specs.Grammar.{span}
use Rattle.format.specs.Fields.{segments_of, length_of}
use Rattle.format.proofs.First.{Reached}
use Rattle.format.proofs.Manifest.lengths_hold.Given as goal

abbrev held : List ℕ → ℕ → Bool
held m n = span 4 max_segment_bytes (length_of m n)

abbrev pub invariant-loop-n : goal.invariant-loop-n
invariant-loop-n l = Reached (held l.self.bytes.now) (segments_of l.self.bytes.now) l.n
