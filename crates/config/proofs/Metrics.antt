-- Which bytes name a metric.
use mathlib.Core.Path.{◌≡◌, refl}
use Prim.Native.Nat.{ℕ, zero, suc}
use native.Mathlib.Omega.{arith}
use lib.Dec.{leb}
use borrow.Author.Tests.{lt-leb, ne_eqb}
use Rattle.config.specs.Metric.{metric_of, is_metric}

pub metric-bytes : (b : ℕ) → is_metric (metric_of b) ≡ leb b 2
unfolding metric_of
metric-bytes zero = refl
metric-bytes (suc zero) = refl
metric-bytes (suc (suc zero)) = refl
metric-bytes (suc (suc (suc b))) =
    let n = suc (suc (suc b)) in
    rw (ne_eqb n 0 (λ e. absurd (omega arith)), ne_eqb n 1 (λ e. absurd (omega arith)), ne_eqb n 2 (λ e. absurd (omega arith)), lt-leb n 2 (omega arith))
