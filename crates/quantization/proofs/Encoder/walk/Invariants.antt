use Prim.Native.Nat.{◌<◌, ◌-◌}
use Rattle.quantization.specs.Encoder.{midpoints_of}
use Rattle.quantization.specs.Walk.{Walked}
use Rattle.quantization.proofs.Encoder.walk.Given as goal

abbrev pub invariant-loop-k : goal.invariant-loop-k
invariant-loop-k l = (l.k < l.self.levels) × Walked (midpoints_of l.self.levels) l.x l.k

abbrev pub decreases-loop-k : goal.decreases-loop-k
decreases-loop-k l = l.self.levels - l.k
