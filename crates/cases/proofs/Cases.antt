-- Each case is computed from the definitions.
use mathlib.Core.Path.{◌≡◌, refl, ap}
use mathlib.Core.Bool.{true}
use mathlib.Core.List.{List, [], ◌∷◌, map}
use Prim.Native.Nat.{ℕ, zero, suc}
use native.Mathlib.Omega.{arith}
use lib.IntN.{ℤ, pos, *ℤ-zero}
use lib.ListN.{replicate}
use lib.Ieee.{binary64, of_bits, add, sub, mul, div, neg, lt, le, eq, of_int}
use Rattle.utf8.specs.Grammar.{span}
use Rattle.float.specs.Values.{plus_zero, one}
use Rattle.float.specs.Hold.{max_zero, clamp}
use Rattle.root.specs.SquareRoot.{sqrt_of}
use Rattle.config.specs.declared.Number.TheVariants.{Approximate}
use Rattle.config.specs.declared.Metric.TheVariants.{SquaredL2}
use Rattle.codes.specs.Codes.{dot, squares, within}
use Rattle.quantization.specs.View.{valid_row}
use Rattle.quantization.specs.Encoder.{base_levels, largest, largest_from, scale_by, not_above, code_of, encode, midpoints, midpoints_of}
use Rattle.cache_format.specs.Sizing.{bounds_number, limits_number, sizing_number}
use Rattle.math.specs.Sums.{fold2}
use Rattle.math.specs.Distance.{inverse, finished, original}
use Rattle.row.specs.Distance.{squared_l2, inner_product, cosine_by, distance_of, approximate}
use Rattle.row.specs.Answer.{measured, answer, row_answer, refusal_of}
use Rattle.row.specs.declared.RowAnswer.TheVariants.{Refused}
use Rattle.cases.specs.Cases.{Cases, row, large, encoded}

-- ---- case g: a zero query's row, and the dot product of any codes with it
zero_largest : (n : ℕ) → largest (replicate n plus_zero) ≡ plus_zero
unfolding largest_from lt
zero_largest zero = refl
zero_largest (suc n) = zero_largest n

zero_codes : (n : ℕ) → map (λ x. code_of midpoints (div binary64 x one)) (replicate n plus_zero) ≡ replicate n (pos 0)
unfolding code_of not_above midpoints_of div le
zero_codes zero = refl
zero_codes (suc n) = ap (λ (t : List ℤ). pos 0 ∷ t) (zero_codes n)

zero_squares : (n : ℕ) → squares (replicate n (pos 0)) ≡ 0
unfolding squares
zero_squares zero = refl
zero_squares (suc n) = let i = zero_squares n in omega arith

zero_query : (n : ℕ) → encoded (replicate n plus_zero) ≡ row one 0 (replicate n (pos 0))
unfolding encode scale_by eq
zero_query n = rw (zero_largest n, zero_codes n, zero_squares n)

zero_dot : (cs : List ℤ) (n : ℕ) → dot cs (replicate n (pos 0)) ≡ pos 0
unfolding dot
zero_dot [] n = refl
zero_dot (x ∷ cs) zero = refl
zero_dot (x ∷ cs) (suc n) = rw (*ℤ-zero x, zero_dot cs n)

over : (place n : ℕ) (cs : List ℤ) → valid_row base_levels SquaredL2 (row large 1 cs) ≡ true
    → row_answer base_levels SquaredL2 true place (row large 1 cs) (encoded (replicate n plus_zero)) ≡ Refused (record { number = Approximate; place = place })
unfolding row_answer answer measured approximate distance_of squared_l2 max_zero add sub mul neg lt of_int of_bits
over place n cs h = rw (h, zero_query n, zero_dot cs n)

pub cases : Cases
unfolding encode scale_by largest_from code_of not_above midpoints_of squares dot within valid_row original finished inverse fold2 approximate distance_of squared_l2 inner_product cosine_by max_zero clamp sqrt_of of_bits add sub mul div neg lt le eq of_int sizing_number bounds_number limits_number span
cases = record {
  a = refl;
  b = refl;
  c = refl;
  d-approximate = refl;
  d-original = refl;
  e = refl;
  f_plus = refl;
  f_minus = refl;
  g_plus = λ cs q. refl;
  g_refused = over;
  g_number = λ place n cs h. ap refusal_of (over place n cs h);
  h-identity = refl;
  h-cache = refl;
  h-passes = refl;
  h-limit = refl;
  h_block = refl;
  below_half = refl;
}
