-- Whole numbers nearest to a root: the radicand's bounds, what nearest means by squares, and the correction of a guess.
use mathlib.Core.Path.{◌≡◌, ap, ◌∙◌}
use Prim.Native.Nat.{ℕ, zero, suc, ◌+◌, ◌-◌, ◌*◌, ◌^◌, ◌≤◌, ◌<◌}
use native.Mathlib.Nat.{mul-add, add-mul, mul-le-mul, mul-mul-mul_comm, mul-one, one-mul}
use native.Mathlib.Omega.{arith}
use mathlib.Core.Bool.{true, ◌&&◌, and-eq-true_iff}
use lib.Dec.{leb, ltb}
use native.Mathlib.Decide.{dec_lt}
use Rattle.std.specs.Int.{from_bool}
use Rattle.root.specs.SquareRoot.{Near}
use borrow.Author.Tests.{le-leb, lt-leb, lt-ltb, le-ltb, leb-true, ltb-true}

-- ---- squares of sums
next : (m : ℕ) → (m + 1) * (m + 1) ≡ m * m + 2 * m + 1
next m = simp (mul-add, add-mul, mul-one, one-mul) (omega arith)

suc_square : (m : ℕ) → suc m * suc m ≡ m * m + 2 * m + 1
suc_square m = ap (λ (x : ℕ). x * x) (omega arith) ∙ next m

pub twice_square : (m : ℕ) → 2 * m * (2 * m) ≡ 4 * (m * m)
twice_square m = mul-mul-mul_comm 2 m 2 m

-- ---- the radicand's bounds
pub shifted : (d k : ℕ) → 2 ^ 52 ≤ d → d < 2 ^ 53 → k < 2 → (2 ^ 104 ≤ d * 2 ^ (k + 52)) × (d * 2 ^ (k + 52) ≤ 2 ^ 106 - 2 ^ 53)
shifted d zero f s h = (omega arith, omega arith)
shifted d (suc zero) f s h = (omega arith, omega arith)
shifted d (suc (suc k)) f s h = absurd (omega arith)

-- ---- nearest: v lies between m * m - m and m * m + m
after : (m : ℕ) → (2 * m + 1) * (2 * m + 1) ≡ 4 * (m * m) + 4 * m + 1
after m = omega (arith, next (2 * m), twice_square m)

before : (m : ℕ) → (2 * m - 1) * (2 * m - 1) + 4 * m ≤ 4 * (m * m) + 1
before zero = omega arith
before (suc k) = let e : 2 * suc k - 1 ≡ 2 * k + 1 = omega arith in rw e (omega (arith, after k, suc_square k))

pub near : (v m : ℕ) → m * m < v + m → v ≤ m * m + m → Near v m
near v m a b = record { under = omega (arith, before m); over = omega (arith, after m) }

-- by the two tests
pub near_tested : (v m q : ℕ) → q ≡ m * m → (ltb q (v + m) && leb v (q + m)) ≡ true → Near v m
near_tested v m q e t = let h = (and-eq-true_iff (ltb q (v + m)) (leb v (q + m))).0 t in near v m (omega (arith, ltb-true q (v + m) h.0)) (omega (arith, leb-true v (q + m) h.1))

-- from the whole part r: the next, or r itself
pub near_next : (v r : ℕ) → r * r + r < v → v < (r + 1) * (r + 1) → Near v (r + 1)
near_next v r a b = near v (r + 1) (omega (arith, next r)) (omega arith)

pub near_floor : (v r : ℕ) → 0 < v → r * r ≤ v → v ≤ r * r + r → Near v r
near_floor v zero p a b = absurd (omega arith)
near_floor v (suc r) p a b = near v (suc r) (omega arith) b

-- ---- there is one
pub unique : (v m n : ℕ) → Near v m → Near v n → m ≡ n
unique v m n a b = go (dec_lt m n) (dec_lt n m)
  where
    less : (m n : ℕ) → Near v m → Near v n → m < n → ⊥
    less m n a b h =
        let s : 2 * m + 1 ≤ 2 * n - 1 = omega arith in
        omega (arith, a.over, b.under, mul-le-mul s s)

    go : Dec (m < n) → Dec (n < m) → m ≡ n
    go (yes h) d = absurd (less m n a b h)
    go (no h) (yes k) = absurd (less n m b a k)
    go (no h) (no k) = omega arith

-- ---- a guess that is one off, mended by what its square leaves
mend_up : (v m z : ℕ) → v + 3 * 2 ^ 54 ≡ z + m * m → m + 3 * 2 ^ 54 < z → z ≤ 3 * 2 ^ 54 + 3 * m → Near v (m + 1)
mend_up v m z e l h = near v (m + 1) (omega (arith, next m)) (omega (arith, next m))

mend_down : (v m z : ℕ) → v + 3 * 2 ^ 54 ≡ z + m * m → 0 < m → z + m ≤ 3 * 2 ^ 54 → 3 * 2 ^ 54 + 2 < z + 3 * m → Near v (m - 1)
mend_down v zero z e p l h = absurd (omega arith)
mend_down v (suc k) z e p l h =
    let n : suc k - 1 ≡ k = omega arith in
    rw n (near v k (omega (arith, suc_square k)) (omega (arith, suc_square k)))

mend_not : (v m z : ℕ) → v + 3 * 2 ^ 54 ≡ z + m * m → z ≤ m + 3 * 2 ^ 54 → 3 * 2 ^ 54 < z + m → Near v m
mend_not v m z e l h = near v m (omega arith) (omega arith)

-- the three cases with no branch
pub mend : (v m z : ℕ) → 0 < m → z ≤ 3 * 2 ^ 54 + 3 * m → 3 * 2 ^ 54 + 2 < z + 3 * m → v + 3 * 2 ^ 54 ≡ z + m * m
    → Near v (m + from_bool (ltb (3 * 2 ^ 54 + m) z) - from_bool (leb (z + m) (3 * 2 ^ 54)))
mend v m z p h l e = go (dec_lt (3 * 2 ^ 54 + m) z) (dec_lt (3 * 2 ^ 54) (z + m))
  where
    same : (r s : ℕ) → r ≡ s → Near v s → Near v r
    same r s k n = rw k n

    go : Dec (3 * 2 ^ 54 + m < z) → Dec (3 * 2 ^ 54 < z + m) → Near v (m + from_bool (ltb (3 * 2 ^ 54 + m) z) - from_bool (leb (z + m) (3 * 2 ^ 54)))
    go (yes a) (yes d) = rw (lt-ltb (3 * 2 ^ 54 + m) z a, lt-leb (z + m) (3 * 2 ^ 54) d) (same (m + 1 - 0) (m + 1) (omega arith) (mend_up v m z e (omega arith) h))
    go (yes a) (no d) = absurd (omega arith)
    go (no a) (yes d) = rw (le-ltb (3 * 2 ^ 54 + m) z (omega arith), lt-leb (z + m) (3 * 2 ^ 54) d) (same (m + 0 - 0) m (omega arith) (mend_not v m z e (omega arith) d))
    go (no a) (no d) = rw (le-ltb (3 * 2 ^ 54 + m) z (omega arith), le-leb (z + m) (3 * 2 ^ 54) (omega arith)) (same (m + 0 - 1) (m - 1) (omega arith) (mend_down v m z e p (omega arith) l))
