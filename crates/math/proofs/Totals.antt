-- A sum of up to 4096 terms, each within 2 ^ k, is within 2 ^ (12 + k), and of terms that have no sign it has none.
use Rattle.std.proofs.Common.{◌≡◌, ℕ, suc, ◌+◌, ◌*◌, ◌^◌, ◌<◌, ◌≤◌, true, false, ◌&&◌, T, ltb, leb, List, [], ◌∷◌, length, pos, refl, lt_of_le_of_lt, mul-le-mul_right, suc-mul, mul-le-mul, one-mul, zero-mul, mul-one, arith, lit<, le→leb, lt→ltb, pow_mono, pow-add}
use mathlib.Core.Bool.{and-eq-true_iff}
use lib.Ieee.{Float, fin, binary32, binary64, fits, add, sub, mul}
use lib.Ieee.Fits.{and_i, add-fits}
use lib.Ieee.Scale.{finite}
use Rattle.float.specs.Order.{negative}
use Rattle.float.proofs.Within.{Within, total, two}
use Rattle.float.proofs.Bounds.{within-trans, add_under, mul_under, sub_under}
use Rattle.float.proofs.Singles.{under_top}
use Rattle.float.proofs.Additions.{Plus, plus_of, add_plus, square_plain}
use Rattle.config.specs.Vector.{all, finites}
use Rattle.math.specs.Sums.{fold2, start, dot, squared_l2}

-- ---- n terms

-- n * 2 ^ k
abbrev times : ℕ → ℕ → Float
times n k = fin false n (pos k)

room : (n k : ℕ) → n ≤ 4096 → k ≤ 900 → n * 2 ^ k < 2 ^ 1024 * 1
room n k h l = lt_of_le_of_lt (mul-le-mul h (pow_mono l)) (lit< tt)

one_more : (n k : ℕ) → n < 4096 → k ≤ 900 → T (total binary64 (times n k) (two k) (times (suc n) k))
one_more n k h l =
    let a = ltb (suc n) (2 ^ 53) in
    let b = leb 1 (2 ^ 1074) in
    let c = ltb (suc n * 2 ^ k) (2 ^ 1024 * 1) in
    let few : suc n < 2 ^ 53 = omega arith in
    let e : (n * 2 ^ k * 1 + 1 * 2 ^ k * 1) * 1 ≤ suc n * 2 ^ k * 1 = rw (one-mul (2 ^ k), suc-mul n (2 ^ k)) (omega arith) in
    and_i (a && b && c) (leb ((n * 2 ^ k * 1 + 1 * 2 ^ k * 1) * 1) (suc n * 2 ^ k * 1))
    (and_i (a && b) c (and_i a b (lt→ltb (suc n) (2 ^ 53) few) tt) (lt→ltb (suc n * 2 ^ k) (2 ^ 1024 * 1) (room (suc n) k h l)))
    (le→leb ((n * 2 ^ k * 1 + 1 * 2 ^ k * 1) * 1) (suc n * 2 ^ k * 1) e)

-- a sum within a bound
pub record Bounded (b x : Float) : Type 0 where
  pub within : Within x b
  pub fit : T (fits binary64 x)

-- and of n terms that have no sign: -0 where there is no term, else it has no sign either
pub record Plain (b : Float) (n : ℕ) (x : Float) : Type 0 where
  pub bounded : Bounded b x
  pub plus : Plus x
  pub sign : 0 < n → negative x ≡ false

module _ (k : ℕ) (l : k ≤ 900) where
  bounded_start : Bounded (times 0 k) start
  bounded_start = record { within = record { fine = tt; bound = tt; order = rw (zero-mul (2 ^ k)) (omega arith) }; fit = unfold fits in tt }

  plain-start : Plain (times 0 k) 0 start
  plain-start = record { bounded = bounded_start; plus = refl; sign = λ h. absurd (omega arith) }

  module _ {n : ℕ} {x t : Float} (h : n < 4096) where
    bounded_turn : Bounded (times n k) x → Within t (two k) → Bounded (times (suc n) k) (add binary64 x t)
    bounded_turn i w = record { within = add_under binary64 (times (suc n) k) i.within w (one_more n k h l); fit = add-fits binary64 x t }

    plain_turn : Plain (times n k) n x → Within t (two k) × (negative t ≡ false) → Plain (times (suc n) k) (suc n) (add binary64 x t)
    plain_turn i w =
        let b = bounded_turn i.bounded w.0 in
        let s = add_plus binary64 x t i.plus w.0.fine w.1 in
        record { bounded = b; plus = plus_of (add binary64 x t) b.within.fine s; sign = λ g. s }

  module _ {n : ℕ} {x : Float} (h : n ≤ 4096) where
    bounded_done : Bounded (times n k) x → Bounded (two (12 + k)) x
    bounded_done b =
        record {
          within = within-trans b.within
              (record { fine = tt; bound = tt; order = rw (one-mul (2 ^ (12 + k)), mul-one (n * 2 ^ k), mul-one (2 ^ (12 + k)), pow-add 2 12 k) (mul-le-mul_right (2 ^ k) h) });
          fit = b.fit;
        }

    plain_done : Plain (times n k) n x → Plain (two (12 + k)) n x
    plain_done p = record { bounded = bounded_done p.bounded; plus = p.plus; sign = p.sign }

-- ---- what a step keeps, a fold keeps
abbrev Pairs : (Float → Float → Type 0) → List Float → List Float → Type 0
Pairs R [] ys = Unit {0}
Pairs R (x ∷ xs) [] = Unit {0}
Pairs R (x ∷ xs) (y ∷ ys) = R x y × Pairs R xs ys

module _ (R : Float → Float → Type 0) (I : ℕ → Float → Type 0) (step : Float → Float → Float → Float)
    (turn : (n : ℕ) (acc x y : Float) → n < 4096 → I n acc → R x y → I (suc n) (step acc x y)) where
  keeps : (n m : ℕ) (acc : Float) (xs ys : List Float) → length xs ≡ length ys → m ≡ n + length xs → m ≤ 4096 → I n acc → Pairs R xs ys → I m (fold2 step acc xs ys)
  unfolding fold2
  keeps n m acc [] ys e f h i p = let z : m ≡ n = omega arith in rw z i
  keeps n m acc (x ∷ xs) [] e f h i p = absurd (omega arith)
  keeps n m acc (x ∷ xs) (y ∷ ys) e f h i p = keeps (suc n) m (step acc x y) xs ys (omega arith) (omega arith) h (turn n acc x y (omega arith) i p.0) p.1

-- ---- coordinates that are finite f32
abbrev pub Coordinates : List Float → Type 0
Coordinates [] = Unit {0}
Coordinates (x ∷ v) = Within x (two 128) × Coordinates v

pub coordinates : (v : List Float) → all (fits binary32) v ≡ true → finites v ≡ true → Coordinates v
coordinates [] h k = tt
coordinates (x ∷ v) h k =
    let f = (and-eq-true_iff (fits binary32 x) (all (fits binary32) v)).0 h in
    let g = (and-eq-true_iff (finite x) (all finite v)).0 k in
    (under_top binary32 x (rw f.0 tt) (rw g.0 tt), coordinates v f.1 g.1)

pairs_of : (R : Float → Float → Type 0) → ((x y : Float) → Within x (two 128) → Within y (two 128) → R x y) → (xs ys : List Float) → Coordinates xs → Coordinates ys → Pairs R xs ys
pairs_of R g [] ys a b = tt
pairs_of R g (x ∷ xs) [] a b = tt
pairs_of R g (x ∷ xs) (y ∷ ys) a b = (g x y a.0 b.0, pairs_of R g xs ys a.1 b.1)

pairs-same : (R : Float → Float → Type 0) → ((x : Float) → Within x (two 128) → R x x) → (xs : List Float) → Coordinates xs → Pairs R xs xs
pairs-same R g [] a = tt
pairs-same R g (x ∷ xs) a = (g x a.0, pairs-same R g xs a.1)

-- ---- the sums
module _ (n : ℕ) (h : n ≤ 4096) where
  bounded_sum : (k : ℕ) → k ≤ 900 → (g : Float → Float → Float) (q v : List Float) → length q ≡ n → length v ≡ n → Pairs (λ x y. Within (g x y) (two k)) q v
      → Bounded (two (12 + k)) (fold2 (λ acc x y. add binary64 acc (g x y)) start q v)
  bounded_sum k l g q v a b p =
      bounded_done k l h
      (keeps (λ x y. Within (g x y) (two k)) (λ n x. Bounded (times n k) x) (λ acc x y. add binary64 acc (g x y)) (λ n acc x y. bounded_turn k l) 0 n start q v (omega arith) (omega arith) h (bounded_start k l) p)

  plain_sum : (k : ℕ) → k ≤ 900 → (g : Float → Float → Float) (q v : List Float) → length q ≡ n → length v ≡ n → Pairs (λ x y. Within (g x y) (two k) × (negative (g x y) ≡ false)) q v
      → Plain (two (12 + k)) n (fold2 (λ acc x y. add binary64 acc (g x y)) start q v)
  plain_sum k l g q v a b p =
      plain_done k l h
      (keeps (λ x y. Within (g x y) (two k) × (negative (g x y) ≡ false)) (λ n x. Plain (times n k) n x) (λ acc x y. add binary64 acc (g x y)) (λ n acc x y. plain_turn k l) 0 n start q v (omega arith) (omega arith) h (plain-start k l) p)

  pub dot_sum : (q v : List Float) → length q ≡ n → length v ≡ n → Coordinates q → Coordinates v → Bounded (two 268) (dot q v)
  dot_sum q v a b s t = bounded_sum 256 (omega arith) (mul binary64) q v a b (pairs_of (λ x y. Within (mul binary64 x y) (two 256)) (λ x y s t. mul_under binary64 (two 256) s t tt) q v s t)

  pub l2_sum : (q v : List Float) → length q ≡ n → length v ≡ n → Coordinates q → Coordinates v → Plain (two 270) n (squared_l2 q v)
  l2_sum q v a b s t =
      let g : Float → Float → Float = λ x y. mul binary64 (sub binary64 x y) (sub binary64 x y) in
      plain_sum 258 (omega arith) g q v a b
      (pairs_of (λ x y. Within (g x y) (two 258) × (negative (g x y) ≡ false))
      (λ x y s t. let d = sub_under binary64 (two 129) s t tt in (mul_under binary64 (two 258) d d tt, square_plain binary64 (sub binary64 x y) d.fine)) q v s t)

  pub square_sum : (v : List Float) → length v ≡ n → Coordinates v → Plain (two 268) n (dot v v)
  square_sum v a s =
      plain_sum 256 (omega arith) (mul binary64) v v a a
      (pairs-same (λ x y. Within (mul binary64 x y) (two 256) × (negative (mul binary64 x y) ≡ false)) (λ x s. (mul_under binary64 (two 256) s s tt, square_plain binary64 x s.fine)) v s)
