-- A row as both searches see it, and a row of a cache (document 01, Layouts, Cache: "A row is scale f64, norm i64, one signed byte a
-- coordinate"), and the row test (The arithmetic, Row valid).
use Rattle.std.specs.Prelude.{List, map, ◌++◌, Bool, false, not, ◌&&◌, ℕ, ◌+◌, eqb, ℤ, pos, negsuc, Float}
use Rattle.std.specs.Float.{binary64}
use Rattle.std.specs.Float.Ieee.{of_bits, to_bits, lt}
use Rattle.std.specs.Float.Ieee.Scale.{finite}
use Rattle.std.specs.Int.{w8, w64}
use Rattle.std.proofs.Common.{to_z, of_z}
use Rattle.le.specs.Le.{le_at, bytes}
use Rattle.float.specs.Values.{plus_zero}
use Rattle.config.specs.Metric.{is_cosine}
use Rattle.config.specs.declared.Metric.{Metric}
use Rattle.codes.specs.Codes.{codes as codes_of, part, squares, within}

pub record View : Type 0 where
  pub scale : Float
  pub norm : ℤ
  pub codes : List ℤ

-- the bytes of a row, and the row of n codes that stands at a place of some bytes
unfoldable pub row_bytes : View → List ℕ
row_bytes r = bytes 8 (to_bits binary64 r.scale) ++ bytes 8 (of_z w64 r.norm) ++ map (of_z w8) r.codes

unfoldable pub row_at : ℕ → List ℕ → ℕ → View
row_at n s at = record { scale = of_bits binary64 (le_at 8 s at); norm = to_z w64 (le_at 8 s (at + 8)); codes = part n (codes_of s) (at + 16) }

-- a number is a count
abbrev pub is_count : ℤ → ℕ → Bool
is_count (pos n) w = eqb n w
is_count (negsuc n) w = false

-- Document 01, The arithmetic, Row valid: "scale finite and above 0, no code -128, norm equal to that sum, and not 0 under
-- cosine"; w is the sum of the squared codes, and whole says that no code is beyond the levels. The range of the scale does not yet
-- depend on the levels (document 02 (vi), (x): it divides by them).
abbrev pub row_test : ℕ → Metric → Float → ℤ → ℕ → Bool → Bool
row_test levels metric scale norm w whole = finite scale && lt plus_zero scale && whole && is_count norm w && not (is_cosine metric && is_count norm 0)

unfoldable pub valid_row : ℕ → Metric → View → Bool
valid_row levels metric r = row_test levels metric r.scale r.norm (squares r.codes) (within levels r.codes)
