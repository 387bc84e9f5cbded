-- The original distance of a query and a record (document 01, The arithmetic, Original).
use Rattle.std.specs.Prelude.{◌≡◌, ℕ, ◌+◌, ◌*◌, ◌≤◌, true, cond, List, length, Float}
use Rattle.std.specs.Float.{binary64}
use Rattle.std.specs.Float.Ieee.{neg, sub, mul, div, eq}
use Rattle.float.specs.Values.{plus_zero, one, two}
use Rattle.float.specs.Hold.{clamp}
use Rattle.root.specs.SquareRoot.{sqrt_of}
use Rattle.config.specs.Vector.{finites, floats_at}
use Rattle.config.specs.declared.Metric.{Metric}
use Rattle.config.specs.declared.Metric.TheVariants.{SquaredL2, Cosine, InnerProduct}
use Rattle.math.specs.Sums.{dot, sum_of}

-- n finite coordinates of a record are at a place of s. Document 01, What each place turns away: "23 then 24", so a record
-- that is measured has passed its tests.
pub record Readable (n : ℕ) (s : List ℕ) (at : ℕ) : Type 0 where
  pub bytes : at + 4 * n ≤ length s
  pub fine : finites (floats_at n s at) ≡ true

-- Document 01, The arithmetic, Original: "An inverse norm is 1 / root(sum of squares), or 0 when that root is 0."
unfoldable pub inverse : Float → Float
inverse r = cond (eq r plus_zero) plus_zero (div binary64 one r)

abbrev pub inverse_norm : List Float → Float
inverse_norm v = inverse (sqrt_of (dot v v))

-- What a metric makes of its sum: squared L2 is the sum itself, and inner product the sum negated. Document 01, The
-- arithmetic, Original: "Cosine is 1 - (dot × inverse norm of query) × inverse norm of record, held in 0..2."
unfoldable pub finished : Metric → Float → Float → Float → Float
finished SquaredL2 sum q_inverse inverse = sum
finished Cosine sum q_inverse inverse = clamp plus_zero two (sub binary64 one (mul binary64 (mul binary64 sum q_inverse) inverse))
finished InnerProduct sum q_inverse inverse = neg sum

-- the original distance of a query q and a record's coordinates v
unfoldable pub original : Metric → List Float → List Float → Float
unfolding finished
original metric q v = finished metric (sum_of metric q v) (inverse_norm q) (inverse_norm v)
