-- Document 01, The arithmetic: "Order: IEEE 754 totalOrder on distance, then id." Here totalOrder, and a key of 64 bits
-- whose order as a whole number it is on numbers.
use Rattle.std.specs.Prelude.{ℕ, ◌+◌, ◌-◌, ◌^◌, Bool, true, false, not, ◌&&◌, ◌||◌, cond, ltb, Float}
use Rattle.std.specs.Float.{nan, inf, fin, binary64}
use Rattle.std.specs.Float.Ieee.{lt, is_nan, to_bits}

-- a sign, which a NaN has not
abbrev pub negative : Float → Bool
negative nan = false
negative (inf s) = s
negative (fin s m e) = s

-- by the signs, and where they are the same by r
abbrev pub by_sign : Bool → Bool → Bool → Bool
by_sign true false r = true
by_sign false true r = false
by_sign true true r = r
by_sign false false r = r

-- totalOrder, strict. Of numbers, signs that differ decide, so -0 comes before +0, and of one sign the numbers' order
-- decides. A NaN comes after every number, where IEEE 754 puts the positive ones; a `nan` has no sign, and none comes
-- before another.
unfoldable pub total_below : Float → Float → Bool
total_below x y = not (is_nan x) && (is_nan y || by_sign (negative x) (negative y) (lt x y))

-- totalOrder itself: x comes before y, or is y
unfoldable pub total_le : Float → Float → Bool
total_le x y = not (total_below y x)

-- the key of a pattern of 64 bits, and the pattern of a key: a negative number's pattern is reversed, and comes below
unfoldable pub key_of : ℕ → ℕ
key_of b = cond (ltb b (2 ^ 63)) (b + 2 ^ 63) (2 ^ 64 - 1 - b)

-- of a float
abbrev pub keyed : Float → ℕ
keyed x = key_of (to_bits binary64 x)

unfoldable pub bits_of : ℕ → ℕ
bits_of k = cond (ltb k (2 ^ 63)) (2 ^ 64 - 1 - k) (k - 2 ^ 63)
