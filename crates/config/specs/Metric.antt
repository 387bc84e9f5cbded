-- The metric byte (document 01, Layouts, Manifest: "metric byte (0 squared L2, 1 cosine, 2 inner product)"; any other names none, and is
-- refused with 2, "metric, model or configuration refused", at place 0).
use Rattle.std.specs.Prelude.{Bool, true, false, cond, ℕ, eqb, Result, Ok, Err}
use Rattle.config.specs.declared.Metric.{Metric}
use Rattle.config.specs.declared.Metric.TheVariants.{SquaredL2, Cosine, InnerProduct}
use Rattle.config.specs.declared.UnknownMetric.{UnknownMetric}

unfoldable pub metric_of : ℕ → Result Metric UnknownMetric
metric_of b = cond (eqb b 0) (Ok SquaredL2) (cond (eqb b 1) (Ok Cosine) (cond (eqb b 2) (Ok InnerProduct) (Err (record { 0 = b }))))

-- the byte names a metric
abbrev pub is_metric : Result Metric UnknownMetric → Bool
is_metric (Ok metric) = true
is_metric (Err unknown) = false

abbrev pub byte_of : Metric → ℕ
byte_of SquaredL2 = 0
byte_of Cosine = 1
byte_of InnerProduct = 2

abbrev pub is_cosine : Metric → Bool
is_cosine SquaredL2 = false
is_cosine Cosine = true
is_cosine InnerProduct = false
