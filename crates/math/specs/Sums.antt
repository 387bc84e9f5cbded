-- Sums over a query and a record (document 01, The arithmetic, Original: "coordinates widened to f64, sums from the
-- first coordinate, starting at -0.0 as the Rust's `Sum` does"; "Each f64 operation rounds once, in the order shown").
use Rattle.std.specs.Prelude.{true, List, [], ◌∷◌, pos, Float}
use Rattle.std.specs.Float.{fin, binary64}
use Rattle.std.specs.Float.Ieee.{add, sub, mul}
use Rattle.config.specs.declared.Metric.{Metric}
use Rattle.config.specs.declared.Metric.TheVariants.{SquaredL2, Cosine, InnerProduct}

-- from acc, a step at each pair, the first pair first, as far as both lists go (document 01, The arithmetic, Original:
-- "sums from the first coordinate")
unfoldable pub fold2 : (Float → Float → Float → Float) → Float → List Float → List Float → Float
fold2 step acc [] ys = acc
fold2 step acc (x ∷ xs) [] = acc
fold2 step acc (x ∷ xs) (y ∷ ys) = fold2 step (step acc x y) xs ys

-- -0.0 (document 01, The arithmetic, Original: "starting at -0.0 as the Rust's `Sum` does")
abbrev pub start : Float
start = fin true 0 (pos 0)

-- sum + x * y (generation.rs, `ScalarKernel::dot`), and sum + (x - y) * (x - y) (math.rs, `squared_l2`)
abbrev pub dot_step : Float → Float → Float → Float
dot_step acc x y = add binary64 acc (mul binary64 x y)

abbrev pub l2_step : Float → Float → Float → Float
l2_step acc x y = add binary64 acc (mul binary64 (sub binary64 x y) (sub binary64 x y))

abbrev pub dot : List Float → List Float → Float
dot q v = fold2 dot_step start q v

abbrev pub squared_l2 : List Float → List Float → Float
squared_l2 q v = fold2 l2_step start q v

-- the step of a metric, and its sum, the query first (generation.rs, `original_distance`)
abbrev pub step_of : Metric → Float → Float → Float → Float
step_of SquaredL2 acc x y = l2_step acc x y
step_of Cosine acc x y = dot_step acc x y
step_of InnerProduct acc x y = dot_step acc x y

abbrev pub sum_of : Metric → List Float → List Float → Float
sum_of metric q v = fold2 (step_of metric) start q v
