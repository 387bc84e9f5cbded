-- Four sums at once, a pair of each a turn.
use Rattle.config.proofs.Coordinates.{valid_parts}
use Rattle.std.proofs.Common.{◌≡◌, ℕ, zero, suc, ◌+◌, ◌<◌, ◌≤◌, true, ◌&&◌, leb, List, [], ◌∷◌, length, get_or, ap, ◌∙◌, arith}
use mathlib.Core.Bool.{and-eq-true_iff}
use lib.Ieee.{Float, nan}
use Rattle.float.specs.Values.{quad}
use Rattle.float.proofs.Quads.{four-alike, quad_at}
use Rattle.root.specs.SquareRoot.{sqrt_of}
use Rattle.config.specs.Metric.{is_cosine}
use Rattle.config.specs.Limits.{max_dimensions}
use Rattle.config.specs.Vector.{finites, valid_vector}
use Rattle.config.specs.declared.Metric.{Metric}
use Rattle.math.specs.Sums.{start, dot_step, step_of}
use Rattle.math.specs.Distance.{inverse, inverse_norm, finished, original}
use Rattle.math.specs.Four.{valid_five}
use Rattle.math.proofs.Folds.{Kept, kept-start, kept_turn, kept_done, is-original}

-- ---- the k-th of four lists
abbrev pub pick : List Float → List Float → List Float → List Float → ℕ → List Float
pick a b c d k = get_or (a ∷ b ∷ c ∷ d ∷ []) k []

-- lists of one length
abbrev pub Same : ℕ → (ℕ → List Float) → Type 0
Same n X = (k : ℕ) → k < 4 → length (X k) ≡ n

pub same : (n : ℕ) (a b c d : List Float) → length a ≡ n → length b ≡ n → length c ≡ n → length d ≡ n → Same n (pick a b c d)
same n a b c d p q r s zero h = p
same n a b c d p q r s (suc zero) h = q
same n a b c d p q r s (suc (suc zero)) h = r
same n a b c d p q r s (suc (suc (suc zero))) h = s
same n a b c d p q r s (suc (suc (suc (suc k)))) h = absurd (omega arith)

-- ---- acc holds the sums of X k and Y k before i
pub record Fours (step : Float → Float → Float → Float) (X Y : ℕ → List Float) (i : ℕ) (acc : List Float) : Type 0 where
  pub each : (k : ℕ) → k < 4 → Kept step (X k) (Y k) i (get_or acc k nan)

module _ {step : Float → Float → Float → Float} {X Y : ℕ → List Float} where
  pub fours_start : Fours step X Y 0 (quad (λ k. start))
  fours_start = record { each = λ k h. rw (quad_at (λ k. start) k h) kept-start }

  pub fours_turn : {n i : ℕ} {acc xs ys next : List Float} → i < n → Same n X → Same n Y
      → xs ≡ quad (λ k. get_or (X k) i nan) → ys ≡ quad (λ k. get_or (Y k) i nan) → next ≡ quad (λ k. step (get_or acc k nan) (get_or xs k nan) (get_or ys k nan))
      → Fours step X Y i acc → Fours step X Y (i + 1) next
  fours_turn {n} {i} {acc} {xs} {ys} l p q e d f t =
      rw f
      (record {
        each = λ k h.
            rw (quad_at (λ k. step (get_or acc k nan) (get_or xs k nan) (get_or ys k nan)) k h)
            (kept_turn (rw (p k h) l) (rw (q k h) l) (ap (λ v. get_or v k nan) e ∙ quad_at (λ k. get_or (X k) i nan) k h) (ap (λ v. get_or v k nan) d ∙ quad_at (λ k. get_or (Y k) i nan) k h) (t.each k h));
      })

-- the four distances from the sums
pub are_originals : (metric : Metric) (q : List Float) (Y : ℕ → List Float) {i : ℕ} {sums norms : List Float} {q_inverse : Float} → length q ≤ i → Same (length q) Y
    → Fours (step_of metric) (λ k. q) Y i sums → (is_cosine metric ≡ true → q_inverse ≡ inverse_norm q) → (is_cosine metric ≡ true → Fours dot_step Y Y i norms)
    → quad (λ k. finished metric (get_or sums k nan) q_inverse (inverse (sqrt_of (get_or norms k nan)))) ≡ quad (λ k. original metric q (Y k))
are_originals metric q Y {i} {sums} {norms} {q_inverse} h l s e n =
    four-alike (one 0 (omega arith)) (one 1 (omega arith)) (one 2 (omega arith)) (one 3 (omega arith))
  where
    one : (k : ℕ) → k < 4 → finished metric (get_or sums k nan) q_inverse (inverse (sqrt_of (get_or norms k nan))) ≡ original metric q (Y k)
    one k g = is-original metric q (Y k) (kept_done h (s.each k g)) e (λ c. kept_done (rw (l k g) h) ((n c).each k g))

-- what the test of five vectors says of them
pub valid_five_lem : (metric : Metric) (q a b c d : List Float) → valid_five metric q a b c d ≡ true
    → (finites q ≡ true) × (((length a ≡ length q) × (finites a ≡ true)) × (((length b ≡ length q) × (finites b ≡ true)) × (((length c ≡ length q) × (finites c ≡ true)) × ((length d ≡ length q) × (finites d ≡ true)))))
unfolding valid_five
valid_five_lem metric q a b c d h =
    let n = length q in
    let p = leb 1 n && leb n max_dimensions in
    let v = valid_vector metric n in
    let i = (and-eq-true_iff (p && v q && v a && v b && v c) (v d)).0 h in
    let j = (and-eq-true_iff (p && v q && v a && v b) (v c)).0 i.0 in
    let k = (and-eq-true_iff (p && v q && v a) (v b)).0 j.0 in
    let l = (and-eq-true_iff (p && v q) (v a)).0 k.0 in
    let m = (and-eq-true_iff p (v q)).0 l.0 in
    ((valid_parts metric n q m.1).1, (valid_parts metric n a l.1, (valid_parts metric n b k.1, (valid_parts metric n c j.1, valid_parts metric n d i.1))))
