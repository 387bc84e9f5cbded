-- What a value that fits a format is: below 2 ^ (emax + 1), and the smallest value at least if it is not zero; and what
-- a value above zero is.
use mathlib.Core.Path.{◌≡◌, refl, sym, ap, ◌∙◌, subst}
use mathlib.Core.Bool.{Bool, true, false, ◌&&◌, true≢false}
use Prim.Native.Nat.{ℕ, zero, suc, ◌+◌, ◌-◌, ◌*◌, ◌^◌, ◌≤◌, ◌<◌, zero-le}
use native.Mathlib.Nat.{le_trans, le_of_eq, le_of_lt, le_of_suc-le-suc, lt_of_lt_of_le, lt_of_mul-lt-mul_right, mul_assoc, mul_right_comm, mul-one, one-mul, zero-mul, mul-le-mul, mul-le-mul_right, mul-le-mul_left, mul-lt-mul_of_pos_right, mul-pos, zero-lt-suc}
use native.Mathlib.Decide.{dec_lt}
use native.Mathlib.Omega.{arith}
use lib.IntN.{ℤ, pos, negsuc}
use lib.Dec.{T, leb, ltb, ltb→lt, lt→ltb, leb→le, le→leb, eqb→eq, lit≤}
use lib.Pow.{pow-add, pow_pos, pow_mono, pow-lt}
use lib.Ieee.{Float, nan, inf, fin, Format, binary32, binary64, prec, emax, low, up, down, eq, fits}
use lib.Ieee.Fits.{up_pos, and_l, and_r, and_i}
use lib.Ieee.Scale.{finite}
use lib.Ieee.Positive.{num, den, positive, first_pos}
use borrow.Author.Tests.{ne_eqb}
use Rattle.float.specs.Values.{plus_zero, abs}
use Rattle.float.specs.Order.{negative}
use Rattle.float.proofs.Within.{Within, holds, two, half}
use Rattle.float.proofs.Bounds.{pow_back}

-- ---- above zero
pub positive_of : (x : Float) → T (finite x) → negative x ≡ false → 0 < num x → T (positive x)
positive_of nan h p k = absurd h
positive_of (inf s) h p k = absurd h
positive_of (fin true m e) h p k = absurd (true≢false p)
positive_of (fin false m e) h p k = lt→ltb 0 m (first_pos m (up e) k)

pub positive_parts : (x : Float) → T (positive x) → T (finite x) × (negative x ≡ false) × (0 < num x)
positive_parts nan h = absurd h
positive_parts (inf s) h = absurd h
positive_parts (fin true m e) h = absurd h
positive_parts (fin false m e) h = (tt, refl, mul-pos (ltb→lt 0 m h) (up_pos e))

-- as the test `== 0.0` finds it
pub not_zero : (x : Float) → T (finite x) → negative x ≡ false → eq x plus_zero ≡ false → T (positive x)
unfolding eq
not_zero nan f p h = absurd f
not_zero (inf s) f p h = absurd f
not_zero (fin true m e) f p h = absurd (true≢false p)
not_zero (fin false zero e) f p h = absurd (true≢false (rw (zero-mul (up e), zero-mul (down e)) at h))
not_zero (fin false (suc m) e) f p h = lt→ltb 0 (suc m) (omega arith)

pub is_not_zero : (x : Float) → T (positive x) → eq x plus_zero ≡ false
unfolding eq
is_not_zero nan h = absurd h
is_not_zero (inf s) h = absurd h
is_not_zero (fin true m e) h = absurd h
is_not_zero (fin false m e) h =
    let k : 0 < m * up e = mul-pos (ltb→lt 0 m h) (up_pos e) in
    rw (zero-mul (down e), ne_eqb (m * up e * 1) 0 (λ z. omega arith))

-- ---- the tests of `fits`
pub parts : (f : Format) (s : Bool) (m : ℕ) (e : ℤ) → T (fits f (fin s (suc m) e)) → (suc m < 2 ^ prec f) × (down e ≤ 2 ^ low f) × (suc m * up e < 2 ^ suc (emax f) * down e)
unfolding fits
parts f s m e t = (
  ltb→lt (suc m) (2 ^ prec f) (search (and_l, and_r)),
  leb→le (down e) (2 ^ low f) (search (and_l, and_r)),
  ltb→lt (suc m * up e) (2 ^ suc (emax f) * down e) (search (and_l, and_r)),
)

-- in units of 2 ^ -P, for a P that is enough, the value is m * 2 ^ t
pub units_of : (f : Format) (P : ℕ) (s : Bool) (m : ℕ) (e : ℤ) → low f ≤ P → T (fits f (fin s (suc m) e)) → (t : ℕ) × (P ≤ low f + t) × (suc m * up e * 2 ^ P ≡ suc m * 2 ^ t * down e)
units_of f P s m (pos k) l h = (k + P, omega arith, rw (pow-add 2 k P, mul-one) (mul_assoc (suc m) (2 ^ k) (2 ^ P)))
units_of f P s m (negsuc k) l h =
    let b : suc k ≤ low f = pow_back (suc k) (low f) (parts f s m (negsuc k) h).1 in
    let e : P - suc k + suc k ≡ P = omega arith in
    (P - suc k, omega arith, rw (mul-one, mul_assoc (suc m) (2 ^ (P - suc k)) (2 ^ suc k), ← pow-add 2 (P - suc k) (suc k), e))

-- a zero is written in one way
pub zero_is : (f : Format) (s : Bool) (e : ℤ) → T (fits f (fin s 0 e)) → fin s 0 e ≡ fin s 0 (pos 0)
unfolding fits
zero_is f s (pos zero) t = refl
zero_is f s (pos (suc k)) t = let h : 0 < suc k = zero-lt-suc k in absurd (omega (arith, pow-lt h, eqb→eq (2 ^ suc k * 1) 1 t))
zero_is f s (negsuc k) t = let h : 0 < suc k = zero-lt-suc k in absurd (omega (arith, pow-lt h, eqb→eq (1 * 2 ^ suc k) 1 t))

-- what fits, the format holds
pub zero_holds : (f : Format) (s : Bool) → T (holds f (fin s 0 (pos 0)))
zero_holds binary32 s = tt
zero_holds binary64 s = tt

pub fits-holds : (f : Format) (x : Float) → T (fits f x) → T (finite x) → T (holds f x)
fits-holds f nan t h = absurd h
fits-holds f (inf s) t h = absurd h
fits-holds f (fin s zero e) t h = subst (λ (x : Float). T (holds f x)) (sym (zero_is f s e t)) (zero_holds f s)
fits-holds f (fin s (suc m) e) t h =
    let p = parts f s m e t in
    and_i (ltb (suc m) (2 ^ prec f) && leb (down e) (2 ^ low f)) (ltb (suc m * up e) (2 ^ suc (emax f) * down e))
    (and_i (ltb (suc m) (2 ^ prec f)) (leb (down e) (2 ^ low f)) (lt→ltb (suc m) (2 ^ prec f) p.0) (le→leb (down e) (2 ^ low f) p.1))
    (lt→ltb (suc m * up e) (2 ^ suc (emax f) * down e) p.2)

pub abs-fits : (f : Format) (x : Float) → T (fits f x) → T (fits f (abs x))
unfolding fits
abs-fits f nan t = t
abs-fits f (inf s) t = t
abs-fits f (fin s zero e) t = t
abs-fits f (fin s (suc m) e) t = t

-- ---- the range
pub under_top : (f : Format) (x : Float) → T (fits f x) → T (finite x) → Within x (two (suc (emax f)))
under_top f nan t h = absurd h
under_top f (inf s) t h = absurd h
under_top f (fin s zero e) t h = record { fine = tt; bound = tt; order = rw (zero-mul (up e)) zero-le }
under_top f (fin s (suc m) e) t h =
    record { fine = tt; bound = tt; order = rw (mul-one (suc m * up e), one-mul (2 ^ suc (emax f))) (le_of_lt (parts f s m e t).2) }

-- 2 ^ -(k + 1) is the format's smallest value
pub least_of : (f : Format) (k : ℕ) (x : Float) → low f ≡ suc k → T (fits f x) → 0 < num x → T (finite x) → Within (half k) x
least_of f k nan q t p h = absurd h
least_of f k (inf s) q t p h = absurd h
least_of f k (fin s zero e) q t p h = absurd (omega (arith, zero-mul (up e)))
least_of f k (fin s (suc m) e) q t p h =
    record {
      fine = tt;
      bound = tt;
      order = le_trans (le_trans (le_of_eq (one-mul (down e))) (rw q at (parts f s m e t).1)) (rw (one-mul (2 ^ suc k)) at (mul-le-mul_right {m = 1} (2 ^ suc k) p));
    }

pub least : (x : Float) → T (fits binary32 x) → T (positive x) → Within (half 148) x
least x t h = let p = positive_parts x h in least_of binary32 148 x refl t p.2 p.0

-- the largest f32
abbrev pub most32 : Float
most32 = fin false 16777215 (pos 104)

at_top : (m k : ℕ) → m < 2 ^ 24 → m * 2 ^ k < 2 ^ 128 * 1 → m * 2 ^ k ≤ 16777215 * 2 ^ 104
at_top m k a b = go (dec_lt 104 k)
  where
    go : Dec (104 < k) → m * 2 ^ k ≤ 16777215 * 2 ^ 104
    go (no h) = let l : m ≤ 16777215 = omega arith in let g : k ≤ 104 = omega arith in mul-le-mul l (pow_mono g)
    go (yes h) =
        let e : k ≡ k - 104 + 104 = omega arith in
        let f : m * 2 ^ k ≡ m * 2 ^ (k - 104) * 2 ^ 104 = ap (λ (z : ℕ). m * 2 ^ z) e ∙ ap (λ (z : ℕ). m * z) (pow-add 2 (k - 104) 104) ∙ sym (mul_assoc m (2 ^ (k - 104)) (2 ^ 104)) in
        let c : m * 2 ^ (k - 104) < 16777216 = lt_of_mul-lt-mul_right (2 ^ 104) (rw f at b) in
        rw f (mul-le-mul_right (2 ^ 104) (le_of_suc-le-suc c))

pub under-most : (x : Float) → T (fits binary32 x) → T (finite x) → Within x most32
under-most nan t h = absurd h
under-most (inf s) t h = absurd h
under-most (fin s zero e) t h = record { fine = tt; bound = tt; order = rw (zero-mul (up e)) zero-le }
under-most (fin s (suc m) (pos k)) t h =
    let p = parts binary32 s m (pos k) t in
    record { fine = tt; bound = tt; order = rw (mul-one (suc m * 2 ^ k)) (at_top (suc m) k p.0 p.2) }
under-most (fin s (suc m) (negsuc k)) t h =
    let p = parts binary32 s m (negsuc k) t in
    let a : suc m ≤ 16777215 * 2 ^ 104 = le_trans (le_of_lt p.0) (lit≤ tt) in
    record { fine = tt; bound = tt; order = rw (mul-one, mul-one) (le_trans a (rw mul-one at (mul-le-mul_left (16777215 * 2 ^ 104) (pow_pos (suc k))))) }

-- ---- an f32 above zero has 24 digits: it is m * 2 ^ (29 + i) of binary64's smallest values
pub record Digits (x : Float) (m i : ℕ) : Type 0 where
  pub some : 0 < m
  pub few : m < 2 ^ 24
  pub fine : T (finite x)
  pub value : num x * 2 ^ 1074 ≡ m * 2 ^ (29 + i) * den x
  pub top : m * 2 ^ (29 + i) < 2 ^ 1202

below_top : (X D U : ℕ) → X * 2 ^ 1074 ≡ U * D → X < 2 ^ 128 * D → U < 2 ^ 1202
below_top X D U e h =
    lt_of_mul-lt-mul_right D (rw (← e) (lt_of_lt_of_le (mul-lt-mul_of_pos_right h (pow_pos 1074)) (le_of_eq (mul_right_comm (2 ^ 128) D (2 ^ 1074)))))

pub digits : (x : Float) → T (fits binary32 x) → T (positive x) → (m : ℕ) × (i : ℕ) × Digits x m i
digits nan t h = absurd h
digits (inf s) t h = absurd h
digits (fin true m e) t h = absurd h
digits (fin false zero e) t h = absurd h
digits (fin false (suc m) e) t h =
    let p = parts binary32 false m e t in
    let u = units_of binary32 1074 false m e (lit≤ tt) t in
    let k : 29 + (u.0 - 29) ≡ u.0 = omega arith in
    (suc m, u.0 - 29, record { some = zero-lt-suc m; few = p.0; fine = tt; value = rw k u.2; top = rw k (below_top (suc m * up e) (down e) (suc m * 2 ^ u.0) u.2 p.2) })
