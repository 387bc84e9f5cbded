-- Info and report as numbers, in the order of their fields, and four distances of a metric given by its number.
use Rattle.std.specs.Prelude.{cond, List, [], ◌∷◌, ℕ, leb, Float}
use Rattle.float.specs.Values.{plus_zero, quad}
use Rattle.config.specs.Refusal.{refused}
use Rattle.config.specs.Metric.{metric_of}
use Rattle.format.specs.Fields.{metric_in}
use Rattle.math.specs.Four.{Four, distance_four}
use Rattle.prepare.specs.declared.Info.{Info}
use Rattle.search_spec.specs.declared.Report.{Report}

-- the Rust's `QuantizedCacheInfo`
unfoldable pub info_numbers : Info → List ℕ
info_numbers i = i.generation ∷ i.sequence ∷ i.cache_bytes ∷ i.code_bytes ∷ i.parameter_bytes ∷ []

-- the report (document 01, The report), true as 1 and false as 0, and the count of places
unfoldable pub report_numbers : Report → List ℕ
report_numbers r =
    r.generation ∷ r.sequence ∷ r.eligible ∷ r.measured ∷ cond r.complete 1 0 ∷ cond r.approximate 1 0 ∷ r.count ∷ []

-- readings R34: "If a byte is taken, over 2 gives 16", with four +0 (document 01, The arithmetic: "16 and four +0")
unfoldable pub distance_four_of : ℕ → List Float → List Float → List Float → List Float → List Float → Four
distance_four_of metric q a b c d =
    cond (leb metric 2) (distance_four (metric_in (metric_of metric)) q a b c d) (record { refusal = refused 16 0; distances = quad (λ k. plus_zero) })
