-- The coordinates of a vector and of a record, a sum a turn at a time, and the distance from its sums.
use Rattle.std.proofs.Common.{◌≡◌, ℕ, ◌+◌, ◌<◌, ◌≤◌, true, List, length, get_or, drop, refl, add-one, drop_of_length-le, drop-cons}
use lib.Ieee.{Float, nan}
use Rattle.root.specs.SquareRoot.{sqrt_of}
use Rattle.config.specs.Metric.{is_cosine}
use Rattle.config.specs.declared.Metric.{Metric}
use Rattle.config.specs.declared.Metric.TheVariants.{SquaredL2, Cosine, InnerProduct}
use Rattle.math.specs.Sums.{fold2, start, dot, sum_of}
use Rattle.math.specs.Distance.{inverse, inverse_norm, finished, original}

-- ---- one turn of a sum
-- acc is the sum of the pairs before i
pub record Kept (step : Float → Float → Float → Float) (xs ys : List Float) (i : ℕ) (acc : Float) : Type 0 where
  pub so : fold2 step acc (drop i xs) (drop i ys) ≡ fold2 step start xs ys

module _ {step : Float → Float → Float → Float} {xs ys : List Float} where
  pub kept-start : Kept step xs ys 0 start
  kept-start = record { so = refl }

  pub kept_turn : {i : ℕ} {acc x y : Float} → i < length xs → i < length ys → x ≡ get_or xs i nan → y ≡ get_or ys i nan → Kept step xs ys i acc → Kept step xs ys (i + 1) (step acc x y)
  unfolding fold2
  kept_turn {i} h k e d t = record { so = rw (e, d, add-one i) (rw (drop-cons xs i nan h, drop-cons ys i nan k) at t.so) }

  pub kept_done : {i : ℕ} {acc : Float} → length xs ≤ i → Kept step xs ys i acc → acc ≡ fold2 step start xs ys
  unfolding fold2
  kept_done {i} h t = rw (drop_of_length-le xs h) at t.so

-- ---- the distance from the sums, of which only cosine has norms
pub is-original : (metric : Metric) (q v : List Float) {sum q_inverse norm : Float} → sum ≡ sum_of metric q v → (is_cosine metric ≡ true → q_inverse ≡ inverse_norm q) → (is_cosine metric ≡ true → norm ≡ dot v v)
    → finished metric sum q_inverse (inverse (sqrt_of norm)) ≡ original metric q v
unfolding original
is-original SquaredL2 q v h k l = h
is-original Cosine q v h k l = rw (h, k refl, l refl)
is-original InnerProduct q v h k l = rw h
