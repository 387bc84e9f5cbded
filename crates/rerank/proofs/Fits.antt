-- Every original distance is a value of an f64.
use mathlib.Core.Bool.{cond}
use mathlib.Core.List.{List, [], ◌∷◌}
use lib.Dec.{T}
use lib.Ieee.{Float, binary64, fits, add, sub, mul, lt}
use lib.Ieee.Fits.{neg-fits, cond-fits, add-fits, sub-fits}
use Rattle.float.specs.Values.{plus_zero, one, two}
use Rattle.float.specs.Hold.{clamp}
use Rattle.config.specs.declared.Metric.{Metric}
use Rattle.config.specs.declared.Metric.TheVariants.{SquaredL2, Cosine, InnerProduct}
use Rattle.math.specs.Sums.{fold2, start, dot}
use Rattle.math.specs.Distance.{inverse_norm, original}

sum_fits : (g : Float → Float → Float) (acc : Float) (q v : List Float) → T (fits binary64 acc) → T (fits binary64 (fold2 (λ acc x y. add binary64 acc (g x y)) acc q v))
unfolding fold2
sum_fits g acc [] v h = h
sum_fits g acc (x ∷ q) [] h = h
sum_fits g acc (x ∷ q) (y ∷ v) h = sum_fits g (add binary64 acc (g x y)) q v (add-fits binary64 acc (g x y))

pub original-fits : (metric : Metric) (q v : List Float) → T (fits binary64 (original metric q v))
unfolding original clamp
original-fits SquaredL2 q v = sum_fits (λ x y. mul binary64 (sub binary64 x y) (sub binary64 x y)) start q v (unfold fits in tt)
original-fits Cosine q v =
    let y = mul binary64 (mul binary64 (dot q v) (inverse_norm q)) (inverse_norm v) in
    let x = sub binary64 one y in
    cond-fits binary64 (lt x plus_zero) plus_zero (cond (lt two x) two x) (unfold fits in tt) (cond-fits binary64 (lt two x) two x (unfold fits in tt) (sub-fits binary64 one y))
original-fits InnerProduct q v = neg-fits binary64 (dot q v) (sum_fits (mul binary64) start q v (unfold fits in tt))
