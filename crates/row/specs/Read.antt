-- Between functions: what they promise one another. No contract of an entry and no theorem rests on this file.
-- A row of a cache as it is read, and the two parts of the row test (document 01, The arithmetic, Row valid).
use Rattle.std.specs.Prelude.{Bool, cond, not, ◌&&◌, Option, Some, None, ℕ, ℤ, Float}
use Rattle.std.specs.Float.Ieee.{lt}
use Rattle.std.specs.Float.Ieee.Scale.{finite}
use Rattle.float.specs.Values.{plus_zero}
use Rattle.config.specs.Metric.{is_cosine}
use Rattle.config.specs.declared.Metric.{Metric}
use Rattle.quantization.specs.View.{is_count}
use Rattle.quantization.specs.declared.Row.{Row}

-- "scale finite and above 0"
abbrev pub scale_test : Float → Bool
scale_test scale = finite scale && lt plus_zero scale

-- "no code -128, norm equal to that sum, and not 0 under cosine"
abbrev pub sums_test : Metric → ℤ → ℕ → Bool → Bool
sums_test metric norm w whole = whole && is_count norm w && not (is_cosine metric && is_count norm 0)

-- scale and norm as one value, where the scale passes
unfoldable pub read_of : Float → ℤ → Option Row
read_of s n = cond (scale_test s) (Some (record { scale = s; norm = n })) None
