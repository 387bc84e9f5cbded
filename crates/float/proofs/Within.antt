-- Sizes of floats, for the laws of rounding: which is at most which, whatever the signs, and whether a format holds a
-- bound.
use Prim.Native.Nat.{ℕ, suc, ◌+◌, ◌*◌, ◌^◌, ◌≤◌}
use mathlib.Core.Bool.{Bool, false, ◌&&◌}
use lib.IntN.{pos, negsuc}
use lib.Dec.{T, leb, ltb}
use lib.Ieee.{Float, nan, inf, fin, Format, prec, emax, low, up, down}
use lib.Ieee.Scale.{finite}
use lib.Ieee.Positive.{num, den}

-- |x| ≤ |y|, and both are finite. An upper bound b of x is `Within x b`, a lower one `Within b x`.
pub record Within (x y : Float) : Type 0 where
  pub fine : T (finite x)
  pub bound : T (finite y)
  pub order : num x * den y ≤ num y * den x

-- the format holds the number, however it is written: m need not be odd
abbrev pub holds : Format → Float → Bool
holds f nan = false
holds f (inf s) = false
holds f (fin s m e) = ltb m (2 ^ prec f) && leb (down e) (2 ^ low f) && ltb (m * up e) (2 ^ suc (emax f) * down e)

-- what of a product, a sum and a quotient of bounds is to be computed: it is at most c, which the format holds
abbrev pub product : Format → Float → Float → Float → Bool
product f a b c = holds f c && leb (num a * num b * den c) (num c * (den a * den b))

abbrev pub total : Format → Float → Float → Float → Bool
total f a b c = holds f c && leb ((num a * den b + num b * den a) * den c) (num c * (den a * den b))

abbrev pub quotient : Format → Float → Float → Float → Bool
quotient f a b c = holds f c && ltb 0 (num b) && leb (num a * den b * den c) (num c * (num b * den a))

-- 2 ^ k, and 2 ^ -(k + 1)
abbrev pub two : ℕ → Float
two k = fin false 1 (pos k)

abbrev pub half : ℕ → Float
half k = fin false 1 (negsuc k)
