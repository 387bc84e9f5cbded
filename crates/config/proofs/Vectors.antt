-- The vector test over floats and over patterns.
use mathlib.Core.Path.{◌≡◌, refl, sym, ap, ◌∙◌}
use mathlib.Core.Bool.{Bool, true, false, not, ◌&&◌, ◌||◌, and-true, and_assoc, or-true, beq, true≢false}
use mathlib.Core.List.{List, [], ◌∷◌, map}
use lib.ListN.{length-map}
use Rattle.std.specs.List.{list_any}
use Rattle.std.specs.Float.{float_is_finite}
use Prim.Native.Nat.{ℕ, zero, suc, ◌+◌, ◌*◌, ◌-◌, ◌%◌, ◌^◌, ◌≤◌, ◌<◌, max}
use native.Mathlib.Nat.{add-zero, mul-one, zero-mul, mul-pos}
use native.Mathlib.Omega.{arith}
use borrow.Author.Tests.{lt-ltb, le-ltb, ltb-true, ltb-false, eq-eqb, ne_eqb, eqb-true, eqb-false}
use lib.Dec.{T, ltb, leb, eqb}
use lib.Pow.{pow_pos}
use lib.Ieee.Fits.{down_pos}
use lib.ListN.{length}
use lib.Ieee.{Float, nan, inf, fin, binary32, up, down, of_bits, eq}
use lib.Ieee.Scale.{finite}
use lib.Ieee.Exact.{HasValue}
use Rattle.le.specs.Le.{le_at}
use Rattle.le.proofs.Chain.{by}
use Rattle.float.proofs.Patterns.{mag, bits_finite, small-bits, pattern-value, mag_pos}
use Rattle.float.specs.Values.{plus_zero}
use Rattle.config.specs.Metric.{is_cosine}
use Rattle.config.specs.declared.Metric.{Metric}
use Rattle.config.specs.Vector.{all, finites, all_zero, valid_vector, patterns_at, floats_at, largest_pattern_from, largest_bits}

-- ---- a test of every element

module _ {A : Type 0} (test : A → Bool) where
  pub all_ext : (other : A → Bool) → ((x : A) → test x ≡ other x) → (v : List A) → all test v ≡ all other v
  all_ext other e [] = refl
  all_ext other e (x ∷ v) = rw (e x, all_ext other e v)

  pub all_map : {B : Type 0} (f : B → A) (v : List B) → all test (map f v) ≡ all (λ x. test (f x)) v
  all_map f [] = refl
  all_map f (x ∷ v) = rw (all_map f v)

-- no element passes where each fails
pub none_passes : {A : Type 0} (test : A → Bool) (v : List A) → not (list_any test v) ≡ all (λ x. not (test x)) v
none_passes test [] = refl
none_passes test (x ∷ v) = by (test x) (λ e. rw e) (λ e. rw (e, none_passes test v))

-- ---- floats

-- finite, as std has it
pub is_finite : (x : Float) → float_is_finite x ≡ finite x
unfolding float_is_finite
is_finite nan = refl
is_finite (inf s) = refl
is_finite (fin s m e) = refl

-- ---- patterns

-- a bound of the largest is a bound of each
max_ltb : (a b k : ℕ) → ltb (max a b) k ≡ (ltb a k && ltb b k)
max_ltb a b k =
    by (ltb a k)
    (λ p. by (ltb b k)
    (λ q. rw (p, q) (lt-ltb (max a b) k (omega (arith, ltb-true a k p, ltb-true b k q))))
    (λ q. rw (p, q) (le-ltb (max a b) k (omega (arith, ltb-false b k q)))))
    (λ p. rw p (le-ltb (max a b) k (omega (arith, ltb-false a k p))))

pub largest_ltb : (k m : ℕ) (bs : List ℕ) → ltb (largest_pattern_from m bs) k ≡ (ltb m k && all (λ b. ltb (b % 2147483648) k) bs)
unfolding largest_pattern_from
largest_ltb k m [] = sym (and-true (ltb m k))
largest_ltb k m (b ∷ bs) =
    largest_ltb k (max m (b % 2147483648)) bs ∙ ap (λ x. x && all (λ b. ltb (b % 2147483648) k) bs) (max_ltb m (b % 2147483648) k)
    ∙ and_assoc (ltb m k) (ltb (b % 2147483648) k) (all (λ b. ltb (b % 2147483648) k) bs)

finite_pattern : (b : ℕ) → finite (of_bits binary32 b) ≡ ltb (b % 2147483648) 2139095040
finite_pattern b =
    by (ltb (b % 2147483648) 2139095040)
    (λ e. rw e (is_true (bits_finite binary32 b (ltb-true (b % 2147483648) 2139095040 e))))
    (λ e. by (finite (of_bits binary32 b))
    (λ f. absurd (omega (arith, ltb-false (b % 2147483648) 2139095040 e, small-bits binary32 b (rw f tt))))
    (λ f. f ∙ sym e))
  where
    is_true : {t : Bool} → T t → t ≡ true
    is_true {t = true} h = refl
    is_true {t = false} h = absurd h

pub finites-largest : (bs : List ℕ) → finites (map (of_bits binary32) bs) ≡ ltb (largest_bits bs) 2139095040
finites-largest bs = all_map finite (of_bits binary32) bs ∙ all_ext (λ b. finite (of_bits binary32 b)) (λ b. ltb (b % 2147483648) 2139095040) finite_pattern bs ∙ sym (largest_ltb 2139095040 0 bs)

-- ---- zero

level_zero : (s : Bool) (a : ℕ) → (eqb a 0 && (beq s false || eqb a 0)) ≡ eqb a 0
level_zero s a = by (eqb a 0) (λ e. rw e (or-true (beq s false))) (λ e. rw e)

-- a * c is 0 with a, where c is not
zero_alike : (a b c d : ℕ) → 0 < c → 0 < d → a * c ≡ b * d → eqb a 0 ≡ eqb b 0
zero_alike a b c d p q h =
    by (eqb a 0)
    (λ e. by (eqb b 0) (λ f. e ∙ sym f) (λ f. absurd (clash b d a c q h (not_zero b f) (eqb-true a 0 e))))
    (λ e. by (eqb b 0) (λ f. absurd (clash a c b d p (sym h) (not_zero a e) (eqb-true b 0 f))) (λ f. e ∙ sym f))
  where
    not_zero : (n : ℕ) → eqb n 0 ≡ false → 0 < n
    not_zero n e = let f : n ≡ 0 → ⊥ = eqb-false n 0 e in omega arith

    clash : (x y z w : ℕ) → 0 < y → z * w ≡ x * y → 0 < x → z ≡ 0 → ⊥
    clash x y z w k e l o = omega (arith, mul-pos l k, ap (λ n. n * w) o ∙ zero-mul w)

zero_value : (x : Float) (s : Bool) (a c : ℕ) → 0 < c → HasValue x s a c → eq x plus_zero ≡ eqb a 0
unfolding eq
zero_value nan s a c p h = absurd h
zero_value (inf t) s a c p h = absurd h
zero_value (fin t m e) s a c p h = rw (mul-one (m * up e), zero-mul (down e)) (level_zero t (m * up e) ∙ zero_alike (m * up e) a c (down e) p (down_pos e) h.1)

zero_pattern : (b : ℕ) → eq (of_bits binary32 b) plus_zero ≡ ltb (b % 2147483648) 1
zero_pattern b =
    by (ltb (b % 2147483648) 2139095040)
    (λ e. let h = ltb-true (b % 2147483648) 2139095040 e in
    zero_value (of_bits binary32 b) (leb 2147483648 b) (mag binary32 (b % 2147483648)) (2 ^ 149) (pow_pos 149) (pattern-value binary32 b h) ∙ mag-zero (b % 2147483648))
    (λ e. not_zero (of_bits binary32 b) (finite_pattern b ∙ e) ∙ sym (le-ltb (b % 2147483648) 1 (omega (arith, ltb-false (b % 2147483648) 2139095040 e))))
  where
    not_zero : (x : Float) → finite x ≡ false → eq x plus_zero ≡ false
    not_zero nan h = unfold eq in refl
    not_zero (inf s) h = unfold eq in refl
    not_zero (fin s m e) h = absurd (true≢false h)

    mag-zero : (n : ℕ) → eqb (mag binary32 n) 0 ≡ ltb n 1
    mag-zero n =
        by (ltb n 1)
        (λ e. let z : n ≡ 0 = omega (arith, ltb-true n 1 e) in rw (e, z))
        (λ e. rw e (ne_eqb (mag binary32 n) 0 (λ q. omega (arith, mag_pos binary32 n (omega (arith, ltb-false n 1 e))))))

pub zeros-largest : (bs : List ℕ) → all_zero (map (of_bits binary32) bs) ≡ ltb (largest_bits bs) 1
zeros-largest bs =
    all_map (λ x. eq x plus_zero) (of_bits binary32) bs ∙ all_ext (λ b. eq (of_bits binary32 b) plus_zero) (λ b. ltb (b % 2147483648) 1) zero_pattern bs
    ∙ sym (largest_ltb 1 0 bs)

-- ---- the patterns in a record's bytes

pub length_patterns : (n : ℕ) (s : List ℕ) (at : ℕ) → length (patterns_at n s at) ≡ n
unfolding patterns_at
length_patterns zero s at = refl
length_patterns (suc n) s at = ap suc (length_patterns n s (at + 4))

pub length_floats : (n : ℕ) (s : List ℕ) (at : ℕ) → length (floats_at n s at) ≡ n
length_floats n s at = length-map (patterns_at n s at) (of_bits binary32) ∙ length_patterns n s at

-- the test by the largest pattern alone
pub by_largest : (metric : Metric) (n : ℕ) (s : List ℕ) (at : ℕ)
    → (ltb (largest_bits (patterns_at n s at)) 2139095040 && not (is_cosine metric && eqb (largest_bits (patterns_at n s at)) 0)) ≡ valid_vector metric n (floats_at n s at)
unfolding valid_vector
by_largest metric n s at =
    let bs = patterns_at n s at in
    let most = largest_bits bs in
    rw (eq-eqb (length (floats_at n s at)) n (length_floats n s at), finites-largest bs, zeros-largest bs, zero_test most)
  where
    zero_test : (x : ℕ) → ltb x 1 ≡ eqb x 0
    zero_test x =
        by (ltb x 1)
        (λ e. e ∙ sym (eq-eqb x 0 (omega (arith, ltb-true x 1 e))))
        (λ e. e ∙ sym (ne_eqb x 0 (λ q. omega (arith, ltb-false x 1 e))))

-- one turn of a loop over the patterns
pub record Largest (n : ℕ) (s : List ℕ) (at i most : ℕ) : Type 0 where
  pub so : largest_pattern_from most (patterns_at (n - i) s (at + 4 * i)) ≡ largest_bits (patterns_at n s at)

module _ {n : ℕ} {s : List ℕ} {at : ℕ} where
  pub largest-start : Largest n s at 0 0
  largest-start = let e : n - 0 ≡ n = omega arith in record { so = rw (e, add-zero at) }

  pub largest_turn : {i most next : ℕ} (b : ℕ) → i < n → b ≡ le_at 4 s (at + 4 * i) → next ≡ max most (b % 2147483648) → Largest n s at i most → Largest n s at (i + 1) next
  unfolding patterns_at largest_pattern_from
  largest_turn {i} {most} b h e k f =
      let c : n - i ≡ suc (n - (i + 1)) = omega arith in
      let d : at + 4 * (i + 1) ≡ at + 4 * i + 4 = omega arith in
      record { so = rw (d, k, e) (rw c at f.so) }

  pub largest_done : {i most : ℕ} → n ≤ i → Largest n s at i most → most ≡ largest_bits (patterns_at n s at)
  unfolding patterns_at largest_pattern_from
  largest_done {i} {most} h f = let c : n - i ≡ 0 = omega arith in rw c at f.so
