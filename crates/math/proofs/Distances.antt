-- Every original distance of two vectors that pass the vector test is finite and fits binary64. Squared L2 and cosine
-- have no sign, so that a zero is +0, and the cosine's lies in 0 .. 2.
use Rattle.config.proofs.Coordinates.{valid_parts}
use Rattle.std.proofs.Common.{◌≡◌, ℕ, zero, suc, ◌+◌, ◌*◌, ◌<◌, ◌≤◌, Bool, true, false, cond, T, List, length, ℤ, sym, refl, ◌∙◌, true≢false, zero-lt-suc, mul-pos, zero-mul, arith, lit≤, lt-ltb}
use mathlib.Core.Bool.{false≢true}
use lib.Ieee.{Float, nan, inf, fin, binary32, binary64, up, down, fits, sub, mul, lt, le, eq}
use lib.Ieee.Fits.{up_pos, neg-fits, cond-fits, sub-fits, mul-fits}
use lib.Ieee.Scale.{finite}
use lib.Ieee.Positive.{num}
use Rattle.le.proofs.Chain.{by}
use Rattle.float.specs.Values.{plus_zero, one, two}
use Rattle.float.specs.Hold.{clamp}
use Rattle.float.specs.Order.{negative}
use Rattle.float.proofs.Within.{Within, two as power, half}
use Rattle.float.proofs.Bounds.{within_refl, neg_within, mul_under, div_under}
use Rattle.float.proofs.Singles.{least_of}
use Rattle.float.proofs.Additions.{Plus, plus-le, sub_some}
use Rattle.float.proofs.Numbers.{In, hold_in, mul_number, sub_number}
use Rattle.root.specs.SquareRoot.{IsRoot, sqrt_of}
use Rattle.root.proofs.SquareRoot.{sqrt_is, root_over}
use Rattle.config.specs.Vector.{all, finites, valid_vector}
use Rattle.config.specs.declared.Metric.{Metric}
use Rattle.config.specs.declared.Metric.TheVariants.{SquaredL2, Cosine, InnerProduct}
use Rattle.math.specs.Sums.{dot, squared_l2}
use Rattle.math.specs.Distance.{inverse, inverse_norm, original}
use Rattle.math.proofs.Totals.{Coordinates, coordinates, dot_sum, l2_sum, square_sum}

-- ---- the inverse of a root is finite
inverse-zero : (s : Bool) (e : ℤ) → inverse (fin s zero e) ≡ plus_zero
unfolding inverse eq
inverse-zero true e = rw (zero-mul (up e), zero-mul (down e))
inverse-zero false e = rw (zero-mul (up e), zero-mul (down e))

inverse_of : (r : Float) → Within (half 536) r → Within (inverse r) (power 537)
unfolding inverse
inverse_of r h =
    by (eq r plus_zero) (λ e. rw e (record { fine = tt; bound = tt; order = lit≤ tt })) (λ e. rw e (div_under binary64 (power 537) (within_refl one tt) h tt))

inverse-root : (x r : Float) → Plus x → T (fits binary64 x) → IsRoot x r → Within (inverse r) (power 537)
inverse-root nan r p f h = absurd p
inverse-root (inf s) r p f h = absurd p
inverse-root (fin s zero e) r p f h = rw (h, inverse-zero s e) (record { fine = tt; bound = tt; order = lit≤ tt })
inverse-root (fin true (suc m) e) r p f h = absurd (omega arith)
inverse-root (fin false (suc m) e) r p f h =
    let x = fin false (suc m) e in
    inverse_of r (root_over x r h 537 (half 1073) (half 536) tt (lit≤ tt) (lit≤ tt) (least_of binary64 1073 x refl f (mul-pos (zero-lt-suc m) (up_pos e)) tt))

pub inverse-norm-within : (n : ℕ) → n ≤ 4096 → (v : List Float) → length v ≡ n → Coordinates v → Within (inverse_norm v) (power 537)
inverse-norm-within n h v e c =
    let s = square_sum n h v e c in
    inverse-root (dot v v) (sqrt_of (dot v v)) s.plus s.bounded.fit (sqrt_is (dot v v) s.bounded.fit)

-- ---- 1 - y, held in 0 .. 2, has no sign
below-zero : (x : Float) → negative x ≡ true → (T (finite x) → 0 < num x) → lt x plus_zero ≡ true
unfolding lt
below-zero nan s p = absurd (false≢true s)
below-zero (inf true) s p = refl
below-zero (inf false) s p = absurd (false≢true s)
below-zero (fin true m e) s p = rw (zero-mul (down e)) (lt-ltb 0 (m * up e * 1 + 0) (omega (arith, p tt)))
below-zero (fin false m e) s p = absurd (false≢true s)

hold_plain : (y : Float) → T (fits binary64 y) → negative (clamp plus_zero two (sub binary64 one y)) ≡ false
unfolding clamp
hold_plain y f =
    let x = sub binary64 one y in
    by (lt x plus_zero) (λ e. rw e)
    (λ e. rw e (by (lt two x) (λ d. rw d)
    (λ d. rw d (by (negative x) (λ n. absurd (true≢false (sym (below-zero x n (sub_some binary64 one y refl (unfold fits in tt) f n)) ∙ e))) (λ n. n)))))

hold_fits : (x : Float) → T (fits binary64 x) → T (fits binary64 (clamp plus_zero two x))
unfolding clamp
hold_fits x f = cond-fits binary64 (lt x plus_zero) plus_zero (cond (lt two x) two x) (unfold fits in tt) (cond-fits binary64 (lt two x) two x (unfold fits in tt) f)

-- ---- the distances
abbrev pub Range : Metric → Float → Type 0
Range SquaredL2 x = T (le plus_zero x) × (negative x ≡ false)
Range Cosine x = In plus_zero two x × (negative x ≡ false)
Range InnerProduct x = Unit {0}

pub record Measured (metric : Metric) (x : Float) : Type 0 where
  pub fine : T (finite x)
  pub fit : T (fits binary64 x)
  pub range : Range metric x

pub original_in : (metric : Metric) (d : ℕ) (q v : List Float) → valid_vector metric d q ≡ true → valid_vector metric d v ≡ true → all (fits binary32) q ≡ true → all (fits binary32) v ≡ true → 1 ≤ d → d ≤ 4096
    → Measured metric (original metric q v)
unfolding original
original_in metric d q v a b f g l h = go metric
  where
    p : (length q ≡ d) × (finites q ≡ true)
    p = valid_parts metric d q a

    r : (length v ≡ d) × (finites v ≡ true)
    r = valid_parts metric d v b

    cq : Coordinates q
    cq = coordinates q f p.1

    cv : Coordinates v
    cv = coordinates v g r.1

    go : (m : Metric) → Measured m (original m q v)
    go SquaredL2 =
        let s = l2_sum d h q v p.0 r.0 cq cv in
        record { fine = s.bounded.within.fine; fit = s.bounded.fit; range = (plus-le (squared_l2 q v) s.plus, s.sign l) }
    go Cosine =
        let x = mul binary64 (dot q v) (inverse_norm q) in
        let y = mul binary64 x (inverse_norm v) in
        let w = mul_under binary64 (power 805) (dot_sum d h q v p.0 r.0 cq cv).within (inverse-norm-within d h q p.0 cq) tt in
        let i = hold_in (sub binary64 one y) (sub_number binary64 one y tt (mul_number binary64 x (inverse_norm v) w.fine (inverse-norm-within d h v r.0 cv).fine)) in
        record { fine = i.fine; fit = hold_fits (sub binary64 one y) (sub-fits binary64 one y); range = (i, hold_plain y (mul-fits binary64 x (inverse_norm v))) }
    go InnerProduct =
        let s = dot_sum d h q v p.0 r.0 cq cv in
        record { fine = (neg_within s.within).fine; fit = neg-fits binary64 (dot q v) s.fit; range = tt }
