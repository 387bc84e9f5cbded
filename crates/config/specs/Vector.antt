-- The vector test (document 01, table: 16, "query count, non-finite value, zero query under cosine", and the same of a record at
-- 5; config.rs, `validate_vector`), and the floats in a record's bytes (Layouts: "A record is id, metadata length, f32 coordinates").
use Rattle.std.specs.Prelude.{Bool, not, ◌&&◌, List, [], ◌∷◌, map, ℕ, zero, suc, ◌+◌, ◌%◌, max, eqb, length, Float}
use Rattle.std.specs.List.{list_all}
use Rattle.std.specs.Float.{binary32}
use Rattle.std.specs.Float.Ieee.{of_bits, eq}
use Rattle.std.specs.Float.Ieee.Scale.{finite}
use Rattle.le.specs.Le.{le_at}
use Rattle.float.specs.Values.{plus_zero}
use Rattle.config.specs.Metric.{is_cosine}
use Rattle.config.specs.declared.Metric.{Metric}

-- every element passes
abbrev pub all : {A : Type 0} → (A → Bool) → List A → Bool
all = list_all

abbrev pub finites : List Float → Bool
finites v = all finite v

-- all zero, -0.0 being zero
abbrev pub all_zero : List Float → Bool
all_zero v = all (λ x. eq x plus_zero) v

unfoldable pub valid_vector : Metric → ℕ → List Float → Bool
valid_vector metric dimensions v = eqb (length v) dimensions && finites v && not (is_cosine metric && all_zero v)

-- the patterns of n f32 from a place on, and their values
unfoldable pub patterns_at : ℕ → List ℕ → ℕ → List ℕ
patterns_at zero s at = []
patterns_at (suc n) s at = le_at 4 s at ∷ patterns_at n s (at + 4)

abbrev pub floats_at : ℕ → List ℕ → ℕ → List Float
floats_at n s at = map (of_bits binary32) (patterns_at n s at)

-- the largest magnitude, as a pattern: of the patterns without their signs the largest, and most if none is above it (document 01,
-- The arithmetic, Encoder: "scale is largest magnitude / 127")
unfoldable pub largest_pattern_from : ℕ → List ℕ → ℕ
largest_pattern_from most [] = most
largest_pattern_from most (b ∷ bs) = largest_pattern_from (max most (b % 2147483648)) bs

abbrev pub largest_bits : List ℕ → ℕ
largest_bits bs = largest_pattern_from 0 bs
