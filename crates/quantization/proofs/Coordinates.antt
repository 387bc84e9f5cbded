-- A vector's coordinates by their patterns: the largest magnitude is the largest pattern's, and the scale and the codes follow
-- from it.
use mathlib.Core.Path.{◌≡◌, refl, sym, ap, ◌∙◌}
use mathlib.Core.Bool.{Bool, true, false, not, cond}
use mathlib.Core.List.{List, [], ◌∷◌, map}
use Prim.Native.Nat.{ℕ, zero, suc, ◌+◌, ◌*◌, ◌%◌, ◌^◌, ◌≤◌, ◌<◌, max}
use native.Mathlib.Nat.{le_of_lt}
use native.Mathlib.Numerals.{add-one}
use native.Mathlib.Omega.{arith}
use borrow.Author.Tests.{ltb-true, ltb-false, lt-leb}
use lib.Dec.{T, ltb, leb}
use lib.ListN.{length, get_or, drop, length-map, drop_of_length-le}
use lib.Seq.{drop-cons}
use lib.Ieee.{Float, nan, inf, fin, binary32, binary64, of_bits, to_bits, fits, lt, div, unlike, is_nan}
use lib.Ieee.Bits.{of_bits-fits, of_bits-to_bits}
use lib.Ieee.Scale.{finite}
use lib.Ieee.Positive.{positive}
use Rattle.le.proofs.Chain.{by}
use Rattle.float.specs.Values.{abs}
use Rattle.float.specs.Order.{negative}
use Rattle.float.proofs.Patterns.{abs-bits, lt_bits, sign_bits, small-bits, bits_finite}
use Rattle.float.proofs.Bounds.{abs-div, div_sign}
use Rattle.float.proofs.Numbers.{div_number}
use Rattle.float.proofs.Singles.{positive_parts}
use Rattle.le.specs.Le.{le_at}
use Rattle.config.specs.Vector.{all, finites, patterns_at, largest_bits}
use Rattle.config.specs.Vector as vector
use Rattle.config.proofs.Vectors.{finites-largest}
use Rattle.config.proofs.Coordinates.{all_cons, all-at}
use Rattle.quantization.specs.Encoder.{largest, largest_from, scale_by, scale_of, not_above, signed_by, code_of}
use Rattle.quantization.proofs.Scales.{Plain}

-- what fits is made of its patterns
pub of_patterns : (v : List Float) → all (fits binary32) v ≡ true → map (of_bits binary32) (map (to_bits binary32) v) ≡ v
of_patterns [] h = refl
of_patterns (x ∷ v) h = let k = all_cons (fits binary32) x v h in rw (of_bits-to_bits binary32 x k.0, of_patterns v k.1)

-- the number of a pattern, and a pattern of a record
pub number_at : (bs : List ℕ) (i : ℕ) → i < length bs → get_or (map (of_bits binary32) bs) i nan ≡ of_bits binary32 (get_or bs i 0)
number_at [] i h = absurd (omega arith)
number_at (b ∷ bs) zero h = refl
number_at (b ∷ bs) (suc i) h = number_at bs i (omega arith)

pub pattern_at : (n : ℕ) (s : List ℕ) (at i : ℕ) → i < n → get_or (patterns_at n s at) i 0 ≡ le_at 4 s (at + 4 * i)
unfolding patterns_at
pattern_at zero s at i h = absurd (omega arith)
pattern_at (suc n) s at zero h = let e : at + 4 * 0 ≡ at = omega arith in rw e refl
pattern_at (suc n) s at (suc i) h = let e : at + 4 * suc i ≡ at + 4 + 4 * i = omega arith in rw e (pattern_at n s (at + 4) i (omega arith))

-- a pattern of f32s, which is no NaN's where its number is finite
pub bits_at : (v : List Float) (i : ℕ) → i < length v → get_or (map (to_bits binary32) v) i 0 ≡ to_bits binary32 (get_or v i nan)
bits_at [] i h = absurd (omega arith)
bits_at (x ∷ v) zero h = refl
bits_at (x ∷ v) (suc i) h = bits_at v i (omega arith)

no_nan : (x : Float) → T (finite (of_bits binary32 (to_bits binary32 x))) → T (not (is_nan x))
unfolding of_bits to_bits is_nan
no_nan nan h = absurd h
no_nan (inf s) h = tt
no_nan (fin s m e) h = tt

pub bits_number : (v : List Float) (i : ℕ) → i < length (map (to_bits binary32) v) → finites (map (of_bits binary32) (map (to_bits binary32) v)) ≡ true → T (not (is_nan (get_or v i nan)))
bits_number v i h k =
    let bs = map (to_bits binary32) v in
    no_nan (get_or v i nan) (rw (number_at bs i h, bits_at v i (rw (length-map v (to_bits binary32)) at h)) at (all-at finite (map (of_bits binary32) bs) i nan k (rw (length-map bs (of_bits binary32)) h)))

-- ---- the largest magnitude
-- a loop: most is the largest pattern without its sign of those before i
pub record Largest (bs : List ℕ) (i most : ℕ) : Type 0 where
  pub so : vector.largest_pattern_from most (drop i bs) ≡ largest_bits bs

pub largest_turn : {bs : List ℕ} {i most next : ℕ} → i < length bs → next ≡ max most (get_or bs i 0 % 2147483648) → Largest bs i most → Largest bs (i + 1) next
unfolding vector.largest_pattern_from
largest_turn {bs} {i} h e f = record { so = rw (e, add-one i) (rw (drop-cons bs i 0 h) at f.so) }

pub largest_done : {bs : List ℕ} {i most : ℕ} → length bs ≤ i → Largest bs i most → most ≡ largest_bits bs
unfolding vector.largest_pattern_from
largest_done {bs} h f = rw (drop_of_length-le bs h) at f.so

larger : (m b : ℕ) → m < 2139095040 → b % 2147483648 < 2139095040
    → cond (lt (of_bits binary32 m) (abs (of_bits binary32 b))) (abs (of_bits binary32 b)) (of_bits binary32 m) ≡ of_bits binary32 (max m (b % 2147483648))
larger m b h k =
    let c = b % 2147483648 in
    rw (abs-bits binary32 b, lt_bits binary32 m c (omega arith) (omega arith))
    (by (ltb m c)
    (λ t. let e : max m c ≡ c = omega (arith, ltb-true m c t) in rw (t, e))
    (λ t. let e : max m c ≡ m = omega (arith, ltb-false m c t) in rw (t, e)))

largest-from : (m : ℕ) (bs : List ℕ) → m < 2139095040 → finites (map (of_bits binary32) bs) ≡ true
    → largest_from (of_bits binary32 m) (map (of_bits binary32) bs) ≡ of_bits binary32 (vector.largest_pattern_from m bs)
unfolding largest_from vector.largest_pattern_from
largest-from m [] l h = refl
largest-from m (b ∷ bs) l h =
    let k = all_cons finite (of_bits binary32 b) (map (of_bits binary32) bs) h in
    let s = small-bits binary32 b k.0 in
    ap (λ x. largest_from x (map (of_bits binary32) bs)) (larger m b l s) ∙ largest-from (max m (b % 2147483648)) bs (omega arith) k.1

plain_of : (m : ℕ) → m < 2139095040 → Plain (of_bits binary32 m)
plain_of m l =
    let e : m % 2147483648 ≡ m = omega arith in
    record {
      fit = of_bits-fits binary32 m;
      fine = bits_finite binary32 m (rw e l);
      sign = sign_bits binary32 m (rw e (le_of_lt l)) ∙ lt-leb 2147483648 m (omega arith);
    }

module _ (bs : List ℕ) (h : finites (map (of_bits binary32) bs) ≡ true) where
  pub largest-is : largest (map (of_bits binary32) bs) ≡ of_bits binary32 (largest_bits bs)
  largest-is = unfold of_bits in largest-from 0 bs (omega arith) h

  pub largest-small : largest_bits bs < 2139095040
  largest-small = ltb-true (largest_bits bs) 2139095040 (sym (finites-largest bs) ∙ h)

  pub scale-is : (levels : ℕ) {s : Float} → s ≡ scale_by levels (of_bits binary32 (largest_bits bs)) → s ≡ scale_of levels (map (of_bits binary32) bs)
  scale-is levels e = rw largest-is e

  plain_patterns : Plain (largest (map (of_bits binary32) bs))
  plain_patterns = rw largest-is (plain_of (largest_bits bs) largest-small)

pub largest-plain : (v : List Float) → all (fits binary32) v ≡ true → finites v ≡ true → Plain (largest v)
largest-plain v f h = let e = of_patterns v f in rw e at (plain_patterns (map (to_bits binary32) v) (rw e h))

-- ---- a code: the quotient of a finite coordinate of pattern b by the scale s
unlike_plus : (b : Bool) → unlike b false ≡ b
unlike_plus true = refl
unlike_plus false = refl

-- its sign is the pattern's highest bit
pub code_sign : (b : ℕ) (s : Float) → T (finite (of_bits binary32 b)) → T (positive s) → negative (div binary64 (of_bits binary32 b) s) ≡ leb (2 ^ 31) b
code_sign b s h p =
    let q = positive_parts s p in
    rw (div_sign binary64 (of_bits binary32 b) s h q.0 q.2, q.1, unlike_plus (negative (of_bits binary32 b)))
    (sign_bits binary32 b (le_of_lt (small-bits binary32 b h)))

module _ (b : ℕ) (s : Float) (h : T (finite (of_bits binary32 b))) (p : T (positive s)) where
  -- its magnitude is the quotient of the pattern without its sign
  pub code-abs : abs (div binary64 (of_bits binary32 b) s) ≡ div binary64 (of_bits binary32 (b % 2147483648)) s
  code-abs =
      let q = positive_parts s p in
      rw (abs-div binary64 (of_bits binary32 b) s h q.0 q.1 q.2, abs-bits binary32 b)

  -- a number without a sign
  pub code-plain : let q = div binary64 (of_bits binary32 (b % 2147483648)) s in T (not (is_nan q)) × (negative q ≡ false)
  code-plain =
      let q = positive_parts s p in
      let c = b % 2147483648 in
      let f = (plain_of c (small-bits binary32 b h)).fine in
      (div_number binary64 (of_bits binary32 c) s f q.0 q.2, code_sign c s f p ∙ lt-leb 2147483648 c (omega arith))

  pub code_is : (mids : List Float) {m : ℕ} → m ≡ not_above mids (abs (div binary64 (of_bits binary32 b) s)) → signed_by (leb (2 ^ 31) b) m ≡ code_of mids (div binary64 (of_bits binary32 b) s)
  unfolding code_of
  code_is mids e = rw (code_sign b s h p, e)
