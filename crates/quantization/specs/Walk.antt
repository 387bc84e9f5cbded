-- Between functions: what they promise one another. No contract of an entry and no theorem rests on this file.
-- The walk over the midpoints (document 01, The arithmetic, Encoder: "compared with a fixed table of 127 midpoints").
use Rattle.std.specs.Prelude.{◌≡◌, cond, List, ℕ, ◌+◌, drop, Float}
use Rattle.std.specs.Float.Ieee.{lt}
use Rattle.quantization.specs.Encoder.{not_above}

-- the lesser of x and top
abbrev pub held : Float → Float → Float
held top x = cond (lt x top) x top

-- the walk stands at midpoint k: all k before it count, and what it has not come to is still to be counted
pub record Walked (mids : List Float) (x : Float) (k : ℕ) : Type 0 where
  pub so : k + not_above (drop k mids) x ≡ not_above mids x
