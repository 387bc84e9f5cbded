-- Document 01, The arithmetic: squared L2 is "then at least 0, a NaN becoming +0", and a cosine is "held in 0..2".
use Rattle.std.specs.Prelude.{cond, Float}
use Rattle.std.specs.Float.Ieee.{lt}
use Rattle.float.specs.Values.{plus_zero}

-- x where it is above 0, else +0
unfoldable pub max_zero : Float → Float
max_zero x = cond (lt plus_zero x) x plus_zero

-- x held in lo .. hi. A NaN stays: no comparison with it is true.
unfoldable pub clamp : Float → Float → Float → Float
clamp lo hi x = cond (lt x lo) lo (cond (lt hi x) hi x)
