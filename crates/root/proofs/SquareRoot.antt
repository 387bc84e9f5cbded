-- `sqrt_of` meets `IsRoot`, and nothing else that fits does; and how large a root is.
use mathlib.Core.Path.{◌≡◌, refl, sym, ap, ◌∙◌, subst}
use mathlib.Core.Bool.{Bool, true, false, ◌&&◌}
use Prim.Native.Nat.{ℕ, zero, suc, ◌+◌, ◌-◌, ◌*◌, ◌/◌, ◌^◌, ◌≤◌, ◌<◌}
use native.Mathlib.Nat.{le_trans, le_of_eq, le_of_lt, lt_of_lt_of_le, lt_of_le_of_lt, lt_irrefl, lt_of_not-le, lt_of_mul-lt-mul_right, mul_assoc, mul_right_comm, mul-one, one-mul, mul-le-mul, mul-le-mul_right, le_of_mul-le-mul_right, mul-lt-mul_of_pos_right, mul-pos, mul-mul-mul_comm, mul-div_cancel, div-lt_iff_lt-mul, eq_of_mul-eq-mul_right, pow-suc, zero-lt-suc}
use native.Mathlib.Decide.{dec_lt}
use native.Mathlib.Omega.{arith}
use lib.IntN.{ℤ, pos, negsuc}
use lib.Dec.{T, leb, ltb, ltb→lt, leb→le, lit≤, lit<}
use lib.Pow.{pow-add, pow_pos, pow_mono, shl_lt}
use lib.Ieee.{Float, nan, inf, fin, binary64, up, down, size, fits, of_bits}
use lib.Ieee.Digits.{size-lt, size_reaches, size-le}
use lib.Ieee.Exact.{HasValue, odd_sign}
use lib.Ieee.Fits.{down_pos, odd-fits, and_l, and_r}
use lib.Ieee.Bits.{of_bits-fits}
use lib.Ieee.Scale.{finite}
use lib.Ieee.Positive.{num, den, den_pos, through, value→cross, positive, positive_of_value}
use borrow.Author.Tests.{leb-true, leb-false}
use Rattle.le.proofs.Chain.{by}
use Rattle.float.specs.Order.{negative}
use Rattle.root.specs.SquareRoot.{Near, Root, IsRoot, next, floor_root, closer, root_of, sqrt_of}
use Rattle.float.proofs.BitLaws.{value_finite, value_sign}
use Rattle.float.proofs.Patterns.{same-value}
use Rattle.float.proofs.Within.{Within, holds}
use Rattle.float.proofs.Bounds.{size_gt, pow_back, settled}
use Rattle.float.proofs.Singles.{parts, units_of}
use Rattle.root.proofs.Squares.{twice_square, near_floor, near_next, unique}
use Rattle.root.proofs.Scales.{bounded, positive_root}

-- ---- the whole part
pub record Floor (v r : ℕ) : Type 0 where
  pub low : r * r ≤ v
  pub high : v < (r + 1) * (r + 1)

next_floor : (v s : ℕ) → Floor (v / 4) s → Floor v (next v (2 * s))
unfolding next
next_floor v s f =
    let e : 2 * s + 1 + 1 ≡ 2 * (s + 1) = omega arith in
    by (leb ((2 * s + 1) * (2 * s + 1)) v)
    (λ t. rw t (record { low = leb-true ((2 * s + 1) * (2 * s + 1)) v t; high = rw e (omega (arith, f.high, twice_square (s + 1))) }))
    (λ t. rw t (record { low = omega (arith, f.low, twice_square s); high = leb-false ((2 * s + 1) * (2 * s + 1)) v t }))

pub floor : (k v : ℕ) → v < 4 ^ k → Floor v (floor_root k v)
unfolding floor_root
floor zero v h = record { low = omega arith; high = omega arith }
floor (suc k) v h = next_floor v (floor_root k (v / 4)) (floor k (v / 4) (omega (arith, pow-suc 4 k)))

pub closer-near : (v r : ℕ) → 0 < v → Floor v r → Near v (closer v r)
unfolding closer
closer-near v r p f =
    by (leb v (r * r + r))
    (λ t. rw t (near_floor v r p f.low (leb-true v (r * r + r) t)))
    (λ t. rw t (near_next v r (leb-false v (r * r + r) t) f.high))

-- ---- the scaling of n = M * 2 ^ t
-- v is u * 2 ^ 52, with u even or of 53 digits
ends : (M p v : ℕ) → M < 2 ^ 53 → v ≡ M * 2 ^ p * 2 ^ 52 → v < 2 ^ 106 → v ≤ 2 ^ 106 - 2 ^ 53
ends M zero v h e k = omega (arith, mul-one M)
ends M (suc p) v h e k = let d : M * 2 ^ suc p ≡ M * 2 ^ p * 2 = rw (pow-suc 2 p) (sym (mul_assoc M (2 ^ p) 2)) in omega arith

record Scaled (n j v : ℕ) : Type 0 where
  exact : n ≡ v * 2 ^ (2 * j)
  low : 2 ^ 104 ≤ v
  high : v < 2 ^ 106
  ending : v ≤ 2 ^ 106 - 2 ^ 53

scaled : (n M t : ℕ) → 0 < M → M < 2 ^ 53 → 1074 ≤ t → n ≡ M * 2 ^ t → Scaled n ((size n - 105) / 2) (n / 2 ^ (2 * ((size n - 105) / 2)))
scaled n M t p h l e =
    let z = size n in
    let j = (z - 105) / 2 in
    let v = n / 2 ^ (2 * j) in
    let few : z ≤ 53 + t = size-le n (53 + t) (rw e (shl_lt 53 t h)) in
    let many : t < z = size_gt n t (rw e (rw (one-mul (2 ^ t)) at (mul-le-mul_right (2 ^ t) p))) in
    let part : t ≡ (t - 2 * j - 52) + 52 + 2 * j = omega arith in
    let x : n ≡ M * 2 ^ (t - 2 * j - 52) * 2 ^ 52 * 2 ^ (2 * j) =
    e ∙ ap (λ (a : ℕ). M * 2 ^ a) part
    ∙ ap (λ (a : ℕ). M * a) (pow-add 2 (t - 2 * j - 52 + 52) (2 * j) ∙ ap (λ (a : ℕ). a * 2 ^ (2 * j)) (pow-add 2 (t - 2 * j - 52) 52))
    ∙ sym (mul_assoc M (2 ^ (t - 2 * j - 52) * 2 ^ 52) (2 ^ (2 * j))) ∙ ap (λ (a : ℕ). a * 2 ^ (2 * j)) (sym (mul_assoc M (2 ^ (t - 2 * j - 52)) (2 ^ 52))) in
    let w : v ≡ M * 2 ^ (t - 2 * j - 52) * 2 ^ 52 = ap (λ (a : ℕ). a / 2 ^ (2 * j)) x ∙ mul-div_cancel (M * 2 ^ (t - 2 * j - 52) * 2 ^ 52) (pow_pos (2 * j)) in
    let y : n ≡ v * 2 ^ (2 * j) = x ∙ ap (λ (a : ℕ). a * 2 ^ (2 * j)) (sym w) in
    let up : z ≤ 106 + 2 * j = omega arith in
    let hi : v < 2 ^ 106 = lt_of_mul-lt-mul_right (2 ^ (2 * j)) (rw (← y, ← pow-add 2 106 (2 * j)) (lt_of_lt_of_le (size-lt n) (pow_mono up))) in
    let down : 104 + 2 * j < z = omega arith in
    record { exact = y; low = le_of_mul-le-mul_right (rw (← y, ← pow-add 2 104 (2 * j)) (size_reaches n (104 + 2 * j) down)) (pow_pos (2 * j)); high = hi; ending = ends M (t - 2 * j - 52) v h w hi }

positive_is : (m : ℕ) (e : ℤ) → T (fits binary64 (fin false (suc m) e))
    → let r = root_of (suc m * up e * 2 ^ 2148 / down e) in Root (fin false (suc m) e) r × T (fits binary64 r)
unfolding root_of
positive_is m e f =
    let n = suc m * up e * 2 ^ 2148 / down e in
    let j = (size n - 105) / 2 in
    let v = n / 2 ^ (2 * j) in
    let r = closer v (floor_root 53 v) in
    let a = units_of binary64 2148 false m e (lit≤ tt) f in
    let p = parts binary64 false m e f in
    let N : n ≡ suc m * 2 ^ a.0 = ap (λ (k : ℕ). k / down e) a.2 ∙ mul-div_cancel (suc m * 2 ^ a.0) (down_pos e) in
    let b = scaled n (suc m) a.0 (zero-lt-suc m) p.0 (omega arith) N in
    let c = closer-near v (floor_root 53 v) (lt_of_lt_of_le (lit< tt) b.low) (floor 53 v b.high) in
    let d = bounded v r c b.low b.ending in
    let z : size n ≤ 3172 =
    size-le n 3172 ((div-lt_iff_lt-mul (down_pos e)).1 (lt_of_lt_of_le (mul-lt-mul_of_pos_right p.2 (pow_pos 2148)) (le_of_eq (mul_right_comm (2 ^ 1024) (down e) (2 ^ 2148))))) in
    let t : 53 + j ≤ 2098 = omega arith in (
      record {
        v = v;
        j = j;
        m = r;
        scaled = a.2 ∙ ap (λ (k : ℕ). k * down e) (sym N ∙ b.exact) ∙ mul_assoc v (2 ^ (2 * j)) (down e);
        low = b.low;
        high = b.high;
        near = c;
        full = d.0;
        digits = d.1;
        value = odd_sign 53 false r j 1074;
      },
      odd-fits binary64 53 false r j d.1 (le_of_lt d.1) (lt_of_lt_of_le (shl_lt 53 j d.1) (pow_mono t)),
    )

pub sqrt_is : (x : Float) → T (fits binary64 x) → IsRoot x (sqrt_of x)
unfolding sqrt_of
sqrt_is nan f = refl
sqrt_is (inf s) f = refl
sqrt_is (fin s zero e) f = refl
sqrt_is (fin true (suc m) e) f = refl
sqrt_is (fin false (suc m) e) f = (positive_is m e f).0

-- ---- there is one root
module _ (x : Float) where
  -- a larger j has a smaller v
  apart : (v w j k : ℕ) → v * (2 ^ (2 * j) * den x) ≡ w * (2 ^ (2 * k) * den x) → v < 2 ^ 106 → 2 ^ 104 ≤ w → j < k → ⊥
  apart v w j k e hi lo h =
      let n : 2 * k ≡ 2 * (k - j) + 2 * j = omega arith in
      let d : v ≡ w * 2 ^ (2 * (k - j)) =
      eq_of_mul-eq-mul_right (2 ^ (2 * j) * den x) (mul-pos (pow_pos (2 * j)) (den_pos x)) v (w * 2 ^ (2 * (k - j)))
      (e ∙ ap (λ (z : ℕ). w * (2 ^ z * den x)) n ∙ ap (λ (z : ℕ). w * (z * den x)) (pow-add 2 (2 * (k - j)) (2 * j))
      ∙ ap (λ (z : ℕ). w * z) (mul_assoc (2 ^ (2 * (k - j))) (2 ^ (2 * j)) (den x)) ∙ sym (mul_assoc w (2 ^ (2 * (k - j))) (2 ^ (2 * j) * den x))) in
      let t : 2 ≤ 2 * (k - j) = omega arith in
      omega (arith, d, mul-le-mul lo (pow_mono t))

  pub one-root : (r s : Float) → T (fits binary64 r) → T (fits binary64 s) → Root x r → Root x s → r ≡ s
  one-root r s f g a b = go (dec_lt a.j b.j) (dec_lt b.j a.j)
    where
      e : a.v * (2 ^ (2 * a.j) * den x) ≡ b.v * (2 ^ (2 * b.j) * den x)
      e = sym a.scaled ∙ b.scaled

      same : a.j ≡ b.j → r ≡ s
      same q =
          let W = 2 ^ (2 * b.j) * den x in
          let p : a.v ≡ b.v =
          eq_of_mul-eq-mul_right W (mul-pos (pow_pos (2 * b.j)) (den_pos x)) a.v b.v
          (sym (ap (λ (z : ℕ). a.v * (2 ^ (2 * z) * den x)) q) ∙ e) in
          let n : a.m ≡ b.m = unique b.v a.m b.m (subst (λ (z : ℕ). Near z a.m) p a.near) b.near in
          let u : a.m * 2 ^ a.j ≡ b.m * 2 ^ b.j = ap (λ (z : ℕ). z * 2 ^ a.j) n ∙ ap (λ (z : ℕ). b.m * 2 ^ z) q in
          same-value binary64 false r s (b.m * 2 ^ b.j) f g (subst (λ (z : ℕ). HasValue r false z (2 ^ 1074)) u a.value) b.value

      go : Dec (a.j < b.j) → Dec (b.j < a.j) → r ≡ s
      go (yes h) d = absurd (apart a.v b.v a.j b.j e a.high b.low h)
      go (no h) (yes k) = absurd (apart b.v a.v b.j a.j (sym e) b.high a.low k)
      go (no h) (no k) = same (omega arith)

-- ---- the root fits, so what `IsRoot` says of a value that fits is that it is `sqrt_of`
pub sqrt_fits : (x : Float) → T (fits binary64 x) → T (fits binary64 (sqrt_of x))
unfolding sqrt_of
sqrt_fits nan f = f
sqrt_fits (inf true) f = unfold fits in tt
sqrt_fits (inf false) f = f
sqrt_fits (fin s zero e) f = f
sqrt_fits (fin true (suc m) e) f = unfold fits in tt
sqrt_fits (fin false (suc m) e) f = (positive_is m e f).1

pub is_sqrt : (x r : Float) → T (fits binary64 x) → T (fits binary64 r) → IsRoot x r → r ≡ sqrt_of x
unfolding sqrt_of
is_sqrt nan r f g h = h
is_sqrt (inf s) r f g h = h
is_sqrt (fin s zero e) r f g h = h
is_sqrt (fin true (suc m) e) r f g h = h
is_sqrt (fin false (suc m) e) r f g h = one-root (fin false (suc m) e) r (root_of (suc m * up e * 2 ^ 2148 / down e)) g (positive_is m e f).1 h (positive_is m e f).0

-- ---- how large a root is: at least 2 ^ k units where x is at least 4 ^ k
lt_back : (p q : ℕ) → 2 ^ p < 2 ^ q → p < q
lt_back p q h = lt_of_not-le (λ (g : q ≤ p). lt_irrefl (2 ^ p) (lt_of_lt_of_le h (pow_mono g)))

-- x / p ≤ y / q < z / r
strictly : (x y z p q r : ℕ) → 0 < p → x * q ≤ y * p → y * r < z * q → x * r < z * p
strictly x y z p q r P h k =
    lt_of_mul-lt-mul_right q
    (lt_of_le_of_lt (le_of_eq (mul_right_comm x r q)) (lt_of_le_of_lt (mul-le-mul_right r h) (lt_of_le_of_lt (le_of_eq (mul_right_comm y p r))
    (lt_of_lt_of_le (mul-lt-mul_of_pos_right k P) (le_of_eq (mul_right_comm z q p))))))

module _ (x r : Float) (R : Root x r) where
  pub root-fine : T (finite r) × (negative r ≡ false)
  root-fine = (value_finite r false (R.m * 2 ^ R.j) (2 ^ 1074) R.value, value_sign r false (R.m * 2 ^ R.j) (2 ^ 1074) R.value)

  low_exponent : (k : ℕ) → 2 ^ (2 * k) * den x ≤ num x * 2 ^ 2148 → k ≤ 52 + R.j
  low_exponent k h =
      let j = R.j in
      let a : 2 ^ (2 * k) ≤ R.v * 2 ^ (2 * j) =
      le_of_mul-le-mul_right (le_trans h (le_of_eq (R.scaled ∙ sym (mul_assoc R.v (2 ^ (2 * j)) (den x))))) (den_pos x) in
      let b : 2 ^ (2 * k) < 2 ^ (106 + 2 * j) = lt_of_le_of_lt a (shl_lt 106 (2 * j) R.high) in
      omega (arith, lt_back (2 * k) (106 + 2 * j) b)

  pub root-low : (k : ℕ) → 2 ^ (2 * k) * den x ≤ num x * 2 ^ 2148 → 2 ^ k * den r ≤ num r * 2 ^ 1074
  root-low k h =
      let j = R.j in
      let a : 2 ^ k ≤ R.m * 2 ^ j = le_trans (le_trans (pow_mono (low_exponent k h)) (le_of_eq (pow-add 2 52 j))) (mul-le-mul_right (2 ^ j) R.full) in
      le_trans (mul-le-mul_right (den r) a) (le_of_eq (sym (value→cross r (R.m * 2 ^ j) (2 ^ 1074) R.value)))

  -- a bound for x, a, and one for its root, b
  pub root_over : (k : ℕ) (a b : Float) → T (finite b) → 2 ^ (2 * k) * den a ≤ num a * 2 ^ 2148 → num b * 2 ^ 1074 ≤ 2 ^ k * den b → Within a x → Within b r
  root_over k a b f h g w =
      record {
        fine = f;
        bound = root-fine.0;
        order = through (num b) (2 ^ k) (num r) (den b) (2 ^ 1074) (den r) (pow_pos 1074) g (root-low k (through (2 ^ (2 * k)) (num a) (num x) (2 ^ 2148) (den a) (den x) (den_pos a) h w.order));
      }

  -- and below 2 ^ k units where x is below 4 ^ k
  high_exponent : (k : ℕ) → num x * 2 ^ 2148 < 2 ^ (2 * k) * den x → 53 + R.j ≤ k
  high_exponent k h =
      let j = R.j in
      let a : R.v * 2 ^ (2 * j) < 2 ^ (2 * k) =
      lt_of_mul-lt-mul_right (den x) (lt_of_le_of_lt (le_of_eq (mul_assoc R.v (2 ^ (2 * j)) (den x) ∙ sym R.scaled)) h) in
      let b : 2 ^ (104 + 2 * j) < 2 ^ (2 * k) = lt_of_le_of_lt (le_trans (le_of_eq (pow-add 2 104 (2 * j))) (mul-le-mul_right (2 ^ (2 * j)) R.low)) a in
      omega (arith, lt_back (104 + 2 * j) (2 * k) b)

  pub root-high : (k : ℕ) → num x * 2 ^ 2148 < 2 ^ (2 * k) * den x → num r * 2 ^ 1074 ≤ 2 ^ k * den r
  root-high k h =
      let j = R.j in
      let a : R.m * 2 ^ j ≤ 2 ^ k = le_trans (le_of_lt (shl_lt 53 j R.digits)) (pow_mono (high_exponent k h)) in
      le_trans (le_of_eq (value→cross r (R.m * 2 ^ j) (2 ^ 1074) R.value)) (mul-le-mul_right (den r) a)

  pub root-under : (k : ℕ) (a b : Float) → T (finite b) → num a * 2 ^ 2148 < 2 ^ (2 * k) * den a → 2 ^ k * den b ≤ num b * 2 ^ 1074 → Within x a → Within r b
  root-under k a b f h g w =
      record {
        fine = root-fine.0;
        bound = f;
        order = through (num r) (2 ^ k) (num b) (den r) (2 ^ 1074) (den b) (pow_pos 1074) (root-high k (strictly (num x) (num a) (2 ^ (2 * k)) (den x) (den a) (2 ^ 2148) (den_pos x) w.order h)) g;
      }

-- for code, where `fits` is an equation
pub of_root : (x r : Float) → fits binary64 x ≡ true → fits binary64 r ≡ true → IsRoot x r → r ≡ sqrt_of x
of_root x r f g h = is_sqrt x r (rw f tt) (rw g tt) h

pub of_bits_lem : (x : Float) (b : ℕ) → fits binary64 x ≡ true → IsRoot x (of_bits binary64 b) → of_bits binary64 b ≡ sqrt_of x
of_bits_lem x b f h = is_sqrt x (of_bits binary64 b) (rw f tt) (of_bits-fits binary64 b) h

-- ---- zero and positive numbers
pub sqrt_zero : (s : Bool) (e : ℤ) → sqrt_of (fin s 0 e) ≡ fin s 0 e
unfolding sqrt_of
sqrt_zero s e = refl

pub sqrt_root : (x : Float) → T (fits binary64 x) → T (positive x) → Root x (sqrt_of x)
sqrt_root x f p = positive_root x (sqrt_of x) p (sqrt_is x f)

-- a positive number's root is positive
pub sqrt_positive : (x : Float) → T (fits binary64 x) → T (positive x) → T (positive (sqrt_of x))
sqrt_positive x f p = let R = sqrt_root x f p in positive_of_value (sqrt_of x) (R.m * 2 ^ R.j) (2 ^ 1074) R.value (mul-pos (lt_of_lt_of_le (lit< tt) R.full) (pow_pos R.j))

-- ---- a value that the format holds, and whose square is at most x, is at most x's root, which is the nearest of 53 digits
under-near : (v m w : ℕ) → 4 * v < (2 * m + 1) * (2 * m + 1) → w * w ≤ v → w ≤ m
under-near v m w h k = go (dec_lt m w)
  where
    go : Dec (m < w) → w ≤ m
    go (no l) = omega arith
    go (yes l) =
        let a : 2 * m + 1 ≤ 2 * (m + 1) = omega arith in
        let b : m + 1 ≤ w = omega arith in
        absurd (omega (arith, mul-le-mul a a, mul-le-mul b b, twice_square (m + 1)))

-- m * 2 ^ a units of 2 ^ -1074
held-units : (b : Float) → T (holds binary64 b) → (m : ℕ) × (a : ℕ) × (m < 2 ^ 53) × (num b * 2 ^ 1074 ≡ m * 2 ^ a * den b)
held-units nan h = absurd h
held-units (inf s) h = absurd h
held-units (fin s m (pos k)) h =
    let p = ltb m (2 ^ 53) in
    let q = leb 1 (2 ^ 1074) in
    let r = ltb (m * 2 ^ k) (2 ^ 1024 * 1) in
    (m, k + 1074, ltb→lt m (2 ^ 53) (and_l p q (and_l (p && q) r h)), mul_assoc m (2 ^ k) (2 ^ 1074) ∙ ap (λ (z : ℕ). m * z) (sym (pow-add 2 k 1074)) ∙ sym (mul-one (m * 2 ^ (k + 1074))))
held-units (fin s m (negsuc k)) h =
    let p = ltb m (2 ^ 53) in
    let q = leb (2 ^ suc k) (2 ^ 1074) in
    let r = ltb (m * 1) (2 ^ 1024 * 2 ^ suc k) in
    let l : suc k ≤ 1074 = pow_back (suc k) 1074 (leb→le (2 ^ suc k) (2 ^ 1074) (and_r p q (and_l (p && q) r h))) in
    let t : 1074 ≡ 1074 - suc k + suc k = omega arith in (
      m,
      1074 - suc k,
      ltb→lt m (2 ^ 53) (and_l p q (and_l (p && q) r h)),
      ap (λ (z : ℕ). z * 2 ^ 1074) (mul-one m) ∙ ap (λ (z : ℕ). m * 2 ^ z) t ∙ ap (λ (z : ℕ). m * z) (pow-add 2 (1074 - suc k) (suc k)) ∙ sym (mul_assoc m (2 ^ (1074 - suc k)) (2 ^ suc k)),
    )

module _ (x r : Float) (R : Root x r) where
  in_units : (M a : ℕ) → M < 2 ^ 53 → M * 2 ^ a * (M * 2 ^ a) * den x ≤ num x * 2 ^ 2148 → M * 2 ^ a ≤ R.m * 2 ^ R.j
  in_units M a few square = go (dec_lt a R.j)
    where
      go : Dec (a < R.j) → M * 2 ^ a ≤ R.m * 2 ^ R.j
      go (yes l) =
          let k : 53 + a ≤ 52 + R.j = omega arith in
          le_trans (le_of_lt (shl_lt 53 a few)) (le_trans (pow_mono k) (le_trans (le_of_eq (pow-add 2 52 R.j)) (mul-le-mul_right (2 ^ R.j) R.full)))
      go (no l) =
          let j = R.j in
          let W = M * 2 ^ (a - j) in
          let k : a - j + j ≡ a = omega arith in
          let e : M * 2 ^ a ≡ W * 2 ^ j = ap (λ (z : ℕ). M * 2 ^ z) (sym k) ∙ ap (λ (z : ℕ). M * z) (pow-add 2 (a - j) j) ∙ sym (mul_assoc M (2 ^ (a - j)) (2 ^ j)) in
          let t : 2 * j ≡ j + j = omega arith in
          let p : 2 ^ (2 * j) ≡ 2 ^ j * 2 ^ j = ap (λ (z : ℕ). 2 ^ z) t ∙ pow-add 2 j j in
          let s : M * 2 ^ a * (M * 2 ^ a) ≤ R.v * 2 ^ (2 * j) =
          le_of_mul-le-mul_right (le_trans square (le_of_eq (R.scaled ∙ sym (mul_assoc R.v (2 ^ (2 * j)) (den x))))) (den_pos x) in
          let w : W * W ≤ R.v =
          le_of_mul-le-mul_right (le_trans (le_of_eq (mul-mul-mul_comm W W (2 ^ j) (2 ^ j) ∙ sym (ap (λ (z : ℕ). z * z) e))) (rw p at s)) (mul-pos (pow_pos j) (pow_pos j)) in
          rw e (mul-le-mul_right (2 ^ j) (under-near R.v R.m W R.near.over w))

  pub root-holds : (b : Float) → T (holds binary64 b) → num b * num b * den x ≤ num x * (den b * den b) → Within b r
  root-holds b h k =
      let u = held-units b h in
      let N = u.0 * 2 ^ u.1 in
      record {
        fine = (settled binary64 false b h).1.fine;
        bound = (root-fine x r R).0;
        order = through (num b) N (num r) (den b) (2 ^ 1074) (den r) (pow_pos 1074) (le_of_eq u.3)
            (le_trans (mul-le-mul_right (den r) (in_units u.0 u.1 u.2 (squared (num b) (den b) N (2 ^ 1074) (num x) (den x) (den_pos b) u.3 k)))
            (le_of_eq (sym (value→cross r (R.m * 2 ^ R.j) (2 ^ 1074) R.value))));
      }
    where
      -- (B / D)² ≤ X / E, where B / D is N / K
      squared : (B D N K X E : ℕ) → 0 < D → B * K ≡ N * D → B * B * E ≤ X * (D * D) → N * N * E ≤ X * (K * K)
      squared B D N K X E p e h =
          le_of_mul-le-mul_right {k = D * D}
          (le_trans (le_of_eq (mul_right_comm (N * N) E (D * D) ∙ ap (λ (z : ℕ). z * E) (mul-mul-mul_comm N N D D ∙ sym (ap (λ (z : ℕ). z * z) e) ∙ mul-mul-mul_comm B K B K) ∙ mul_right_comm (B * B) (K * K) E))
          (le_trans (mul-le-mul_right (K * K) h) (le_of_eq (mul_right_comm X (D * D) (K * K))))) (mul-pos p p)
