-- The encoder (document 01, The arithmetic, Encoder), over a level count and a list of midpoints: 127 and 0.5, 1.5 .. 126.5 in the
-- base. Each f64 operation rounds once.
use Rattle.std.specs.Prelude.{◌≡◌, List, [], ◌∷◌, map, Bool, true, false, cond, ℕ, zero, suc, ◌+◌, ◌*◌, ◌-◌, ◌≤◌, ◌<◌, ℤ, pos, negsuc, neg_ℤ, T, length, get_or, Float}
use Rattle.std.specs.Float.{nan, fin, binary64}
use Rattle.std.specs.Float.Ieee.{div, lt, le, eq, of_int}
use Rattle.std.specs.Float.Ieee.Positive.{positive}
use Rattle.float.specs.Values.{plus_zero, one, abs}
use Rattle.float.specs.Order.{negative}
use Rattle.codes.specs.Codes.{squares}
use Rattle.quantization.specs.View.{View}

-- the largest magnitude, and acc if none is above it
unfoldable pub largest_from : Float → List Float → Float
largest_from acc [] = acc
largest_from acc (x ∷ v) = largest_from (cond (lt acc (abs x)) (abs x) acc) v

abbrev pub largest : List Float → Float
largest v = largest_from plus_zero v

-- "scale is largest magnitude / 127, or 1.0 for a zero vector"
unfoldable pub scale_by : ℕ → Float → Float
scale_by levels most = cond (eq most plus_zero) one (div binary64 most (of_int binary64 (pos levels)))

abbrev pub scale_of : ℕ → List Float → Float
scale_of levels v = scale_by levels (largest v)

-- "the number of midpoints not above the quotient's magnitude"
unfoldable pub not_above : List Float → Float → ℕ
not_above [] x = 0
not_above (m ∷ ms) x = cond (le m x) 1 0 + not_above ms x

-- "its sign is the quotient's"
abbrev pub signed_by : Bool → ℕ → ℤ
signed_by true n = neg_ℤ (pos n)
signed_by false n = pos n

-- the code of the quotient q
unfoldable pub code_of : List Float → Float → ℤ
code_of mids q = signed_by (negative q) (not_above mids (abs q))

unfoldable pub encode : ℕ → List Float → List Float → View
encode levels mids v =
    let s = scale_of levels v in
    let cs = map (λ x. code_of mids (div binary64 x s)) v in
    record { scale = s; norm = pos (squares cs); codes = cs }

-- midpoint k is k + 1/2, and the first n of them: "a fixed table of 127 midpoints 0.5, 1.5 .. 126.5"
abbrev pub midpoint : ℕ → Float
midpoint k = fin false (2 * k + 1) (negsuc 0)

abbrev pub midpoints_from : ℕ → ℕ → List Float
midpoints_from k zero = []
midpoints_from k (suc n) = midpoint k ∷ midpoints_from (suc k) n

unfoldable pub midpoints_of : ℕ → List Float
midpoints_of levels = midpoints_from 0 levels

-- a level count: document 02 (x), "a level count from 1 to 127"
abbrev pub Levels : ℕ → Type 0
Levels n = (1 ≤ n) × (n ≤ 127)

-- the level count of the base, and its midpoints
abbrev pub base_levels : ℕ
base_levels = 127

abbrev pub midpoints : List Float
midpoints = midpoints_of base_levels

-- What the laws ask of any other list of midpoints (document 02 (xi): "one f64 a level. They must be finite, above 0 .., and the first
-- at most levels - 0.5"); none asks that they rise.
pub record Table (levels : ℕ) (mids : List Float) : Type 0 where
  pub count : length mids ≡ levels
  pub first : le (get_or mids 0 nan) (midpoint (levels - 1)) ≡ true
  pub plus : (i : ℕ) → i < levels → T (positive (get_or mids i nan))
