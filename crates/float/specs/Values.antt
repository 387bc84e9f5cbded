-- Constants, four values, a number without its sign, and what a float that was read from bytes is to a caller.
use Rattle.std.specs.Prelude.{List, [], ◌∷◌, ℕ, pos, false, Float, Option, Some, None}
use Rattle.std.specs.Float.{nan, inf, fin}

-- +0, 1 and 2 (document 01, The arithmetic: "at least 0, a NaN becoming +0", "Cosine is 1 - ..", "held in 0..2")
abbrev pub plus_zero : Float
plus_zero = fin false 0 (pos 0)

abbrev pub one : Float
one = fin false 1 (pos 0)

abbrev pub two : Float
two = fin false 1 (pos 1)

-- the values at 0, 1, 2 and 3 (document 01, The arithmetic: "four distances in one call")
abbrev pub quad : (ℕ → Float) → List Float
quad g = g 0 ∷ g 1 ∷ g 2 ∷ g 3 ∷ []

-- the magnitude (document 01, The arithmetic, Encoder: "largest magnitude")
abbrev pub abs : Float → Float
abs nan = nan
abs (inf s) = inf false
abs (fin s m e) = fin false m e

-- a finite number or none (document 01, What each place turns away: "coordinates (non-finite, ..)" at 5, "non-finite
-- value" at 16)
unfoldable pub number : Float → Option Float
number nan = None
number (inf s) = None
number (fin s m e) = Some (fin s m e)
