use mathlib.Core.Path.{◌≡◌}
use Prim.Native.Nat.{◌+◌}
use lib.ListN.{drop}
use Rattle.manifest.specs.Scratch.{run}
use Rattle.manifest.proofs.run.Given as goal

abbrev pub invariant-loop-i : goal.invariant-loop-i
invariant-loop-i l = l.i + run l.n (drop l.i l.keys) ≡ run l.n l.keys
