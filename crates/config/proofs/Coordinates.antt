-- The coordinates of a vector and of a record, one by one: what holds of all holds of each, and a record's are f32.
use mathlib.Core.Path.{◌≡◌, refl}
use mathlib.Core.Bool.{Bool, true, not, ◌&&◌, and-eq-true_iff}
use mathlib.Core.List.{List, [], ◌∷◌, map}
use Prim.Native.Nat.{ℕ, zero, suc, ◌+◌, ◌*◌, ◌≤◌, ◌<◌}
use native.Mathlib.Omega.{arith}
use borrow.Author.Tests.{eqb-true}
use lib.Dec.{T, eqb}
use lib.ListN.{length, get_or}
use lib.Ieee.{Float, nan, binary32, of_bits, fits}
use lib.Ieee.Bits.{is_true, of_bits-fits}
use lib.Ieee.Fits.{and_l, and_r}
use lib.Ieee.Scale.{finite}
use Rattle.le.specs.Le.{le_at}
use Rattle.config.specs.Metric.{is_cosine}
use Rattle.config.specs.declared.Metric.{Metric}
use Rattle.config.specs.Vector.{all, finites, all_zero, valid_vector, patterns_at, floats_at}
use Rattle.config.proofs.Vectors.{length_floats}

-- ---- every element
module _ {A : Type 0} (test : A → Bool) where
  pub all_cons : (x : A) (v : List A) → all test (x ∷ v) ≡ true → (T (test x)) × (all test v ≡ true)
  all_cons x v h = let t : T (test x && all test v) = rw h tt in (and_l (test x) (all test v) t, is_true (all test v) (and_r (test x) (all test v) t))

  pub all_by : (v : List A) (d : A) → ((i : ℕ) → T (test (get_or v i d))) → all test v ≡ true
  all_by [] d h = refl
  all_by (x ∷ v) d h = rw (is_true (test x) (h 0), all_by v d (λ i. h (suc i)))

  pub all-at : (v : List A) (i : ℕ) (d : A) → all test v ≡ true → i < length v → T (test (get_or v i d))
  all-at [] i d h l = absurd (omega arith)
  all-at (x ∷ v) zero d h l = (all_cons x v h).0
  all-at (x ∷ v) (suc i) d h l = all-at v i d (all_cons x v h).1 (omega arith)

-- what the vector test says of a vector
pub valid_parts : (metric : Metric) (n : ℕ) (v : List Float) → valid_vector metric n v ≡ true → (length v ≡ n) × (finites v ≡ true)
unfolding valid_vector
valid_parts metric n v h =
    let e = ((and-eq-true_iff (eqb (length v) n && finites v) (not (is_cosine metric && all_zero v))).0 h).0 in
    let f = (and-eq-true_iff (eqb (length v) n) (finites v)).0 e in
    (eqb-true (length v) n f.0, f.1)

-- ---- a record's coordinates
pub floats_at_lem : (n : ℕ) (s : List ℕ) (at i : ℕ) → i < n → get_or (floats_at n s at) i nan ≡ of_bits binary32 (le_at 4 s (at + 4 * i))
unfolding patterns_at
floats_at_lem zero s at i h = absurd (omega arith)
floats_at_lem (suc n) s at zero h = let k : at + 4 * 0 ≡ at = omega arith in rw k
floats_at_lem (suc n) s at (suc i) h = let k : at + 4 * suc i ≡ at + 4 + 4 * i = omega arith in rw k (floats_at_lem n s (at + 4) i (omega arith))

pub in_floats : (n : ℕ) (s : List ℕ) (at : ℕ) {i : ℕ} → i < n → i < length (floats_at n s at)
in_floats n s at h = rw (length_floats n s at) h

pub past_floats : (n : ℕ) (s : List ℕ) (at : ℕ) {i : ℕ} → n ≤ i → length (floats_at n s at) ≤ i
past_floats n s at h = rw (length_floats n s at) h

pub finite_at : (n : ℕ) (s : List ℕ) (at i : ℕ) → i < n → finites (floats_at n s at) ≡ true → finite (of_bits binary32 (le_at 4 s (at + 4 * i))) ≡ true
finite_at n s at i h k = rw (← floats_at_lem n s at i h) (is_true (finite (get_or (floats_at n s at) i nan)) (all-at finite (floats_at n s at) i nan k (in_floats n s at h)))

-- what was made of patterns fits
pub patterns_fit : (bs : List ℕ) → all (fits binary32) (map (of_bits binary32) bs) ≡ true
patterns_fit [] = refl
patterns_fit (b ∷ bs) = rw (is_true (fits binary32 (of_bits binary32 b)) (of_bits-fits binary32 b), patterns_fit bs)

pub floats_fit : (n : ℕ) (s : List ℕ) (at : ℕ) → all (fits binary32) (floats_at n s at) ≡ true
floats_fit n s at = patterns_fit (patterns_at n s at)
