-- The approximate distance of two rows that pass the row test, of up to 4096 codes each and with scales that an encoder gives, is finite,
-- so that 22 is never given of rows of the encoder. Every distance fits.
use mathlib.Core.Path.{◌≡◌, refl, ◌∙◌}
use mathlib.Core.Bool.{Bool, true, false, cond, and-false}
use mathlib.Core.List.{List, [], ◌∷◌}
use Prim.Native.Nat.{ℕ, ◌*◌, ◌≤◌, ◌<◌}
use native.Mathlib.Nat.{mul-le-mul, mul-suc}
use native.Mathlib.Omega.{arith}
use lib.Dec.{T, lit≤, lit<}
use lib.IntN.{ℤ, pos, nat_abs, ◌*ℤ◌}
use lib.ListN.{length}
use lib.Ieee.{Float, binary32, binary64, of_int, fits, div, neg, lt}
use lib.Ieee.Fits.{cond-fits, sub-fits, mul-fits, round-fits}
use lib.Ieee.Bits.{is_true}
use lib.Ieee.Scale.{finite}
use Rattle.le.proofs.Chain.{by}
use Rattle.float.specs.Values.{plus_zero, one, two}
use Rattle.float.specs.Hold.{max_zero, clamp}
use Rattle.float.proofs.Within.{Within, two as power}
use Rattle.float.proofs.Bounds.{within_refl, within-trans, within_of_le, neg_within, int_within, int_over, mul_under, mul_over, add_under, sub_under, div_under, within_pos, round_sign}
use Rattle.float.proofs.Singles.{positive_of, positive_parts, most32}
use Rattle.float.proofs.Numbers.{hold_in}
use Rattle.float.proofs.BitLaws.{finite_number}
use Rattle.root.specs.SquareRoot.{sqrt_of}
use Rattle.root.proofs.SquareRoot.{sqrt_root, root_over, root-under}
use Rattle.config.specs.Refusal.{none}
use Rattle.config.specs.Metric.{is_cosine}
use Rattle.config.specs.declared.Metric.{Metric}
use Rattle.config.specs.declared.Metric.TheVariants.{SquaredL2, Cosine, InnerProduct}
use Rattle.config.specs.Vector.{all, finites, valid_vector}
use Rattle.config.proofs.Coordinates.{valid_parts}
use Rattle.codes.specs.Codes.{dot, squares, within}
use Rattle.codes.proofs.Numbers.{abs_add, abs-mul}
use Rattle.quantization.specs.View.{View, valid_row}
use Rattle.quantization.specs.Encoder.{Levels, Table, encode}
use Rattle.quantization.proofs.Codes.{within-cons}
use Rattle.quantization.proofs.Scales.{bound_sign}
use Rattle.quantization.proofs.Encoded.{encoded_length, scale_positive, scale-range, encoded-valid}
use Rattle.row.specs.Distance.{◌⊕◌, ◌⊖◌, ◌⊗◌, ◌⊘◌, of_integer, squared_l2, inner_product, cosine_by, distance_of, approximate}
use Rattle.row.specs.Answer.{refusal_of, row_answer}
use Rattle.row.proofs.Views.{Summed, summed, second}
use Rattle.row.proofs.Yields.{refusal_is}

-- ---- sums over codes within ± k
pub dot-most : (k : ℕ) (xs ys : List ℤ) → within k xs ≡ true → within k ys ≡ true → nat_abs (dot xs ys) ≤ k * k * length xs
unfolding dot
dot-most k [] ys a b = omega arith
dot-most k (x ∷ xs) [] a b = omega arith
dot-most k (x ∷ xs) (y ∷ ys) a b =
    let p = within-cons k x xs a in
    let q = within-cons k y ys b in
    let i = dot-most k xs ys p.1 q.1 in
    let m = mul-le-mul p.0 q.0 in
    rw (mul-suc (k * k) (length xs)) (omega (arith, abs_add (x *ℤ y) (dot xs ys), abs-mul x y, i, m))

pub squares-within : (k : ℕ) (xs : List ℤ) → within k xs ≡ true → squares xs ≤ k * k * length xs
unfolding squares
squares-within k [] h = omega arith
squares-within k (x ∷ xs) h =
    let p = within-cons k x xs h in
    rw (mul-suc (k * k) (length xs)) (omega (arith, squares-within k xs p.1, mul-le-mul p.0 p.0))

-- ---- the distances of scales up to 2 ^ 128, and of norms and dot products up to 2 ^ 26
whole-under : (z : ℤ) → nat_abs z ≤ 67108864 → Within (of_integer z) (power 26)
whole-under z h = int_within binary64 z (power 26) tt (omega arith)

l2_finite : (s qs : Float) (n m d : ℤ) → Within s (power 128) → Within qs (power 128) → nat_abs n ≤ 67108864 → nat_abs m ≤ 67108864 → nat_abs d ≤ 67108864
    → T (finite (squared_l2 s n qs m d))
unfolding squared_l2 max_zero
l2_finite s qs n m d a b h k l =
    let x = mul_under binary64 (power 282) (mul_under binary64 (power 256) a a tt) (whole-under n h) tt in
    let y = mul_under binary64 (power 282) (mul_under binary64 (power 256) b b tt) (whole-under m k) tt in
    let z = mul_under binary64 (power 283) (mul_under binary64 (power 257) (mul_under binary64 (power 129) (within_refl two tt) a tt) b tt) (whole-under d l) tt in
    let r = sub_under binary64 (power 285) (add_under binary64 (power 283) x y tt) z tt in
    by (lt plus_zero (((s ⊗ s) ⊗ of_integer n ⊕ (qs ⊗ qs) ⊗ of_integer m) ⊖ ((two ⊗ s) ⊗ qs) ⊗ of_integer d)) (λ e. rw e r.fine) (λ e. rw e tt)

inner_finite : (s qs : Float) (d : ℤ) → Within s (power 128) → Within qs (power 128) → nat_abs d ≤ 67108864 → T (finite (inner_product s qs d))
unfolding inner_product
inner_finite s qs d a b l = (mul_under binary64 (power 282) (mul_under binary64 (power 256) (neg_within a) b tt) (whole-under d l) tt).fine

-- the root of a norm of 1 to 2 ^ 26
root_in : (n : ℕ) → 0 < n → n ≤ 67108864 → Within one (sqrt_of (of_integer (pos n))) × Within (sqrt_of (of_integer (pos n))) (power 14)
root_in n p h =
    let x = of_integer (pos n) in
    let u = whole-under (pos n) h in
    let o : Within one x = int_over binary64 (pos n) one tt (omega arith) u.fine in
    let w = positive_of x u.fine (unfold of_int in round_sign binary64 false n 1) (within_pos o (lit< tt)) in
    let R = sqrt_root x (unfold of_int in round-fits binary64 false n 1) w in
    (root_over x (sqrt_of x) R 1074 one one tt (lit≤ tt) (lit≤ tt) o, root-under x (sqrt_of x) R 1088 (power 26) (power 14) tt (lit< tt) (lit≤ tt) u)

cosine_finite : (n m : ℕ) (d : ℤ) → 0 < n → 0 < m → n ≤ 67108864 → m ≤ 67108864 → nat_abs d ≤ 67108864 → T (finite (cosine_by (pos n) (sqrt_of (of_integer (pos m))) d))
unfolding cosine_by
cosine_finite n m d p q h k l =
    let a = root_in n p h in
    let b = root_in m q k in
    let c = mul_under binary64 (power 28) a.1 b.1 tt in
    let e = mul_over binary64 one a.0 b.0 tt (lit≤ tt) c.fine in
    let r = sub_under binary64 (power 27) (within_refl one tt) (div_under binary64 (power 26) (whole-under d l) e tt) tt in
    (hold_in (one ⊖ of_integer d ⊘ (sqrt_of (of_integer (pos n)) ⊗ sqrt_of (of_integer (pos m)))) (finite_number (one ⊖ of_integer d ⊘ (sqrt_of (of_integer (pos n)) ⊗ sqrt_of (of_integer (pos m)))) r.fine)).fine

-- ---- of two rows that pass the row test
abbrev Passes : ℕ → Metric → View → Type 0
Passes levels metric r = Summed metric r.norm (squares r.codes) (within levels r.codes)

passes : (levels : ℕ) (metric : Metric) (r : View) → valid_row levels metric r ≡ true → Passes levels metric r
unfolding valid_row
passes levels metric r h =
    let w = squares r.codes in
    let b = within levels r.codes in
    summed metric r.norm w b (second levels metric r.scale r.norm w b h)

pub valid_finite : (levels : ℕ) (metric : Metric) (r q : View) → levels ≤ 127 → valid_row levels metric r ≡ true → valid_row levels metric q ≡ true
    → Within r.scale (power 128) → Within q.scale (power 128) → length r.codes ≤ 4096 → length q.codes ≤ 4096
    → T (finite (approximate metric r q))
unfolding approximate distance_of
valid_finite levels metric r q l a b sr sq lr lq = go metric (passes levels metric r a) (passes levels metric q b)
  where
    room : (n : ℕ) → n ≤ 4096 → levels * levels * n ≤ 66064384
    room n h = mul-le-mul (mul-le-mul l l) h

    go : (m : Metric) → Passes levels m r → Passes levels m q → T (finite (distance_of m r.scale r.norm q.scale q.norm (dot r.codes q.codes)))
    go m x y =
        let d : nat_abs (dot r.codes q.codes) ≤ 67108864 = omega (arith, dot-most levels r.codes q.codes x.whole y.whole, room (length r.codes) lr) in
        let n : squares r.codes ≤ 67108864 = omega (arith, squares-within levels r.codes x.whole, room (length r.codes) lr) in
        let k : squares q.codes ≤ 67108864 = omega (arith, squares-within levels q.codes y.whole, room (length q.codes) lq) in
        rw (x.norm, y.norm) (each m x.some y.some d n k)
      where
        each : (m : Metric) → (is_cosine m ≡ true → 0 < squares r.codes) → (is_cosine m ≡ true → 0 < squares q.codes)
            → nat_abs (dot r.codes q.codes) ≤ 67108864 → squares r.codes ≤ 67108864 → squares q.codes ≤ 67108864
            → T (finite (distance_of m r.scale (pos (squares r.codes)) q.scale (pos (squares q.codes)) (dot r.codes q.codes)))
        each SquaredL2 x y d n k = l2_finite r.scale q.scale (pos (squares r.codes)) (pos (squares q.codes)) (dot r.codes q.codes) sr sq n k d
        each InnerProduct x y d n k = inner_finite r.scale q.scale (dot r.codes q.codes) sr sq d
        each Cosine x y d n k = cosine_finite (squares r.codes) (squares q.codes) (dot r.codes q.codes) (x refl) (y refl) n k d

-- ---- of two rows of the encoder, from vectors that pass the vector test: neither 21 nor 22 is given
module _ {levels : ℕ} {mids : List Float} (g : Levels levels) (t : Table levels mids) (metric : Metric) (d : ℕ) (l : d ≤ 4096) where
  -- a scale is at most the largest f32 / levels
  scale-under : (v : List Float) → all (fits binary32) v ≡ true → finites v ≡ true → Within (encode levels mids v).scale (power 128)
  scale-under v f h =
      let s = (encode levels mids v).scale in
      let b = div binary64 most32 (of_integer (pos levels)) in
      let w = int_within binary64 (pos levels) (power 26) tt (omega (arith, g.1)) in
      let o : Within one (of_integer (pos levels)) = int_over binary64 (pos levels) one tt (omega (arith, g.0)) w.fine in
      let u : Within b (power 128) = div_under binary64 (power 128) (within_refl most32 tt) o tt in
      let p = positive_parts s (scale_positive g mids v f h) in
      within-trans (within_of_le s b p.1 (bound_sign g most32 tt refl) u.fine (scale-range g mids v f h).1) u

  pub encoded_finite : (v w : List Float) → all (fits binary32) v ≡ true → all (fits binary32) w ≡ true → valid_vector metric d v ≡ true → valid_vector metric d w ≡ true
      → T (finite (approximate metric (encode levels mids v) (encode levels mids w)))
  encoded_finite v w f h a b =
      let p = valid_parts metric d v a in
      let q = valid_parts metric d w b in
      valid_finite levels metric (encode levels mids v) (encode levels mids w) g.1 (encoded-valid g t metric d v f a) (encoded-valid g t metric d w h b)
      (scale-under v f p.1) (scale-under w h q.1) (omega (arith, encoded_length levels mids v, p.0)) (omega (arith, encoded_length levels mids w, q.0))

  pub encoded-none : (eligible : Bool) (place : ℕ) (v w : List Float) → all (fits binary32) v ≡ true → all (fits binary32) w ≡ true → valid_vector metric d v ≡ true → valid_vector metric d w ≡ true
      → refusal_of (row_answer levels metric eligible place (encode levels mids v) (encode levels mids w)) ≡ none
  unfolding row_answer
  encoded-none eligible place v w f h a b =
      let x = approximate metric (encode levels mids v) (encode levels mids w) in
      rw (encoded-valid g t metric d v f a) (refusal_is true eligible place x ∙ rw (is_true (finite x) (encoded_finite v w f h a b), and-false eligible))

-- ---- every distance is a value of an f64
max_fits : (x : Float) → T (fits binary64 x) → T (fits binary64 (max_zero x))
unfolding max_zero
max_fits x f = cond-fits binary64 (lt plus_zero x) x plus_zero f (unfold fits in tt)

hold_fits : (x : Float) → T (fits binary64 x) → T (fits binary64 (clamp plus_zero two x))
unfolding clamp
hold_fits x f = cond-fits binary64 (lt x plus_zero) plus_zero (cond (lt two x) two x) (unfold fits in tt) (cond-fits binary64 (lt two x) two x (unfold fits in tt) f)

pub distance-fits : (metric : Metric) (r q : View) → T (fits binary64 (approximate metric r q))
unfolding approximate distance_of squared_l2 inner_product cosine_by
distance-fits SquaredL2 r q =
    let s = r.scale in
    let t = q.scale in
    let x = (s ⊗ s) ⊗ of_integer r.norm ⊕ (t ⊗ t) ⊗ of_integer q.norm in
    let y = ((two ⊗ s) ⊗ t) ⊗ of_integer (dot r.codes q.codes) in
    max_fits (x ⊖ y) (sub-fits binary64 x y)
distance-fits Cosine r q =
    let y = of_integer (dot r.codes q.codes) ⊘ (sqrt_of (of_integer r.norm) ⊗ sqrt_of (of_integer q.norm)) in
    hold_fits (one ⊖ y) (sub-fits binary64 one y)
distance-fits InnerProduct r q = mul-fits binary64 (neg r.scale ⊗ q.scale) (of_integer (dot r.codes q.codes))
