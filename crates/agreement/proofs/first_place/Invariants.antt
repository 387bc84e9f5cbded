use Prim.Native.Nat.{◌-◌}
use Rattle.agreement.specs.Count.{key_not_after}
use Rattle.agreement.proofs.Places.{Between}
use Rattle.agreement.proofs.first_place.Given as goal

abbrev pub invariant-loop-low : goal.invariant-loop-low
invariant-loop-low l = Between (key_not_after l.ks l.rs l.key l.row) l.n l.low l.high

abbrev pub decreases-loop-low : goal.decreases-loop-low
decreases-loop-low l = l.high - l.low
