use mathlib.Core.Path.{◌≡◌}
use Prim.Native.Nat.{◌*◌, ◌^◌, ◌<◌, ◌≤◌}
use Rattle.root.proofs.raised.Given as goal

abbrev pub invariant-loop-d : goal.invariant-loop-d
invariant-loop-d l = (l.d * 2 ^ l.e ≡ l.tail * 2 ^ 1074) × (l.d < 2 ^ 53) × (1022 ≤ l.e) × (l.e ≤ 1074)

abbrev pub decreases-loop-d : goal.decreases-loop-d
decreases-loop-d l = l.e
