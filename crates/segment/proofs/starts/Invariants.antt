use mathlib.Core.Path.{◌≡◌}
use Rattle.segment.specs.Record.{start_of, starts_to}
use Rattle.segment.proofs.starts.Given as goal

abbrev pub invariant-loop-n : goal.invariant-loop-n
invariant-loop-n l = record { sum : l.sum ≡ start_of l.m.bytes.now l.n; starts : l.starts ≡ starts_to l.m.bytes.now l.n }
