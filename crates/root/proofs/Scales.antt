-- A float's 53 digits and exponent from its bits, the root's pattern from its digits, and the root of every kind of
-- input.
use mathlib.Core.Path.{◌≡◌, refl, ap, ◌∙◌, sym, subst}
use mathlib.Core.Bool.{Bool, true, false, false≢true}
use Prim.Native.Nat.{ℕ, zero, suc, ◌+◌, ◌-◌, ◌*◌, ◌/◌, ◌%◌, ◌^◌, ◌≤◌, ◌<◌}
use native.Mathlib.Nat.{mul-add, add-mul, mul_assoc, mul-le-mul, le_refl, two-pow-succ, mul-lt-mul_of_pos_right, mul-pos, lt_of_lt_of_le, lt_of_le_of_lt, mul-le-mul_left, lt_irrefl, zero-mul}
use native.Mathlib.Decide.{dec_lt}
use native.Mathlib.Omega.{arith}
use lib.Pow.{pow-add, pow_pos, pow_mono}
use lib.Dec.{T, leb}
use borrow.Author.Tests.{lt-leb, le-leb}
use lib.Ieee.{Float, nan, inf, fin, binary64, up, of_fields, of_bits, to_bits, is_nan}
use lib.Ieee.Bits.{to_bits-of_bits}
use lib.Ieee.Fits.{down_pos}
use lib.Ieee.Exact.{HasValue}
use lib.Ieee.Positive.{num, den, value→cross, positive, positive_of_value, positive-finite}
use Rattle.root.specs.SquareRoot.{Near, Root, IsRoot, Scale, Ordinary}
use Rattle.root.proofs.Squares.{shifted}
use Rattle.float.proofs.BitLaws.{above_nan, finite_number, is_nan_lem}
use Rattle.float.proofs.Patterns.{mag, mag_pos, pattern-value, pattern-inf, plain_value, wider}

-- ---- a subnormal's digits moved up
pub doubled : (d e t : ℕ) → 0 < e → d * 2 ^ e ≡ t → (d + d) * 2 ^ (e - 1) ≡ t
doubled d zero t h k = absurd (omega arith)
doubled d (suc e) t h k =
    let n : suc e - 1 ≡ e = omega arith in
    rw n (add-mul d d (2 ^ e) ∙ sym (mul-add d (2 ^ e) (2 ^ e)) ∙ sym (ap (λ (p : ℕ). d * p) (two-pow-succ e)) ∙ k)

pub room : (d e t : ℕ) → d < 2 ^ 52 → 0 < t → d * 2 ^ e ≡ t * 2 ^ 1074 → 1022 < e
room d e t h p k = go (dec_lt 1022 e)
  where
    go : Dec (1022 < e) → 1022 < e
    go (yes l) = l
    go (no l) =
        let b : e ≤ 1022 = omega arith in
        let z : d * 2 ^ e < t * 2 ^ 1074 =
        lt_of_lt_of_le (lt_of_le_of_lt (mul-le-mul_left d (pow_mono b)) (mul-lt-mul_of_pos_right h (pow_pos 1022))) (mul-le-mul p (le_refl (2 ^ 1074))) in
        absurd (lt_irrefl (t * 2 ^ 1074) (rw k at z))

-- ---- digits and exponent
pub scale_small : (b d e : ℕ) → b < 2 ^ 52 → d * 2 ^ e ≡ b * 2 ^ 1074 → 2 ^ 52 ≤ d → d < 2 ^ 53 → 1022 ≤ e → e ≤ 3119 → Scale (of_bits binary64 b) d e
scale_small b d e h k a c l u =
    let z : b / 2 ^ 52 ≡ 0 = omega arith in
    let t : b % 2 ^ 52 ≡ b = omega arith in
    record {
      full = a;
      digits = c;
      low = l;
      high = u;
      value =
          subst (λ (n : ℕ). HasValue (of_bits binary64 b) false n (2 ^ 2148)) (sym k)
          (wider (of_bits binary64 b) false b (2 ^ 1074) (2 ^ 1074) (rw (z, t) at (plain_value binary64 b (omega arith))));
    }

pub scale_normal : (b : ℕ) → 2 ^ 52 ≤ b → b < 2047 * 2 ^ 52 → Scale (of_bits binary64 b) (b % 2 ^ 52 + 2 ^ 52) (1073 + b / 2 ^ 52)
scale_normal b l h =
    record {
      full = omega arith;
      digits = omega arith;
      low = omega arith;
      high = omega arith;
      value =
          subst (λ (n : ℕ). HasValue (of_bits binary64 b) false n (2 ^ 2148)) regroup
          (wider (of_bits binary64 b) false ((2 ^ 52 + b % 2 ^ 52) * 2 ^ k) (2 ^ 1074) (2 ^ 1074) (rw e at (plain_value binary64 b h)));
    }
  where
    k : ℕ
    k = b / 2 ^ 52 - 1

    e : b / 2 ^ 52 ≡ suc k
    e = omega arith

    regroup : (2 ^ 52 + b % 2 ^ 52) * 2 ^ k * 2 ^ 1074 ≡ (b % 2 ^ 52 + 2 ^ 52) * 2 ^ (1073 + b / 2 ^ 52)
    regroup =
        let n : 1073 + b / 2 ^ 52 ≡ k + 1074 = omega arith in
        let c : 2 ^ 52 + b % 2 ^ 52 ≡ b % 2 ^ 52 + 2 ^ 52 = omega arith in
        rw (n, c, pow-add 2 k 1074) (mul_assoc (b % 2 ^ 52 + 2 ^ 52) (2 ^ k) (2 ^ 1074))

-- ---- and the root's
pub bounded : (v m : ℕ) → Near v m → 2 ^ 104 ≤ v → v ≤ 2 ^ 106 - 2 ^ 53 → (2 ^ 52 ≤ m) × (m < 2 ^ 53)
bounded v m n a b = (low_end (dec_lt m (2 ^ 52)), high_end (dec_lt m (2 ^ 53)))
  where
    low_end : Dec (m < 2 ^ 52) → 2 ^ 52 ≤ m
    low_end (yes h) = let s : 2 * m + 1 ≤ 2 ^ 53 - 1 = omega arith in absurd (omega (arith, n.over, mul-le-mul s s))
    low_end (no h) = omega arith

    high_end : Dec (m < 2 ^ 53) → m < 2 ^ 53
    high_end (yes h) = h
    high_end (no h) = let s : 2 ^ 54 - 1 ≤ 2 * m - 1 = omega arith in absurd (omega (arith, n.under, mul-le-mul s s))

-- the pattern of m * 2 ^ j units
pub root-value : (j m : ℕ) → j < 2046 → 2 ^ 52 ≤ m → m < 2 ^ 53 → HasValue (of_bits binary64 (j * 2 ^ 52 + m)) false (m * 2 ^ j) (2 ^ 1074)
root-value j m h a b =
    let e : (j * 2 ^ 52 + m) / 2 ^ 52 ≡ suc j = omega arith in
    let d : 2 ^ 52 + (j * 2 ^ 52 + m) % 2 ^ 52 ≡ m = omega arith in
    rw d at (rw e at (plain_value binary64 (j * 2 ^ 52 + m) (omega arith)))

-- the digits of a root, and the root, of a number with this scale
pub root_digits : (d e m : ℕ) → 2 ^ 52 ≤ d → d < 2 ^ 53 → Near (d * 2 ^ (e % 2 + 52)) m → (2 ^ 52 ≤ m) × (m < 2 ^ 53)
root_digits d e m f s n =
    let v = shifted d (e % 2) f s (omega arith) in
    bounded (d * 2 ^ (e % 2 + 52)) m n v.0 v.1

pub rooted : (x : Float) (d e m : ℕ) → Scale x d e → Near (d * 2 ^ (e % 2 + 52)) m → Root x (of_bits binary64 ((e - 52) / 2 * 2 ^ 52 + m))
rooted x d e m c n =
    let j = (e - 52) / 2 in
    let v = shifted d (e % 2) c.full c.digits (omega arith) in
    let z = root_digits d e m c.full c.digits n in
    let t : j < 2046 = omega (arith, c.low, c.high) in
    record { v = d * 2 ^ s; j = j; m = m; scaled = cross; low = v.0; high = omega arith; near = n; full = z.0; digits = z.1; value = root-value j m t z.0 z.1 }
  where
    s : ℕ
    s = e % 2 + 52

    cross : num x * 2 ^ 2148 ≡ d * 2 ^ s * (2 ^ (2 * ((e - 52) / 2)) * den x)
    cross =
        let W = 2 ^ (2 * ((e - 52) / 2)) in
        let i : e ≡ s + 2 * ((e - 52) / 2) = omega (arith, c.low) in
        value→cross x (d * 2 ^ e) (2 ^ 2148) c.value ∙ ap (λ (z : ℕ). d * 2 ^ z * den x) i ∙ ap (λ (z : ℕ). d * z * den x) (pow-add 2 s (2 * ((e - 52) / 2)))
        ∙ ap (λ (z : ℕ). z * den x) (sym (mul_assoc d (2 ^ s) W)) ∙ mul_assoc (d * 2 ^ s) W (den x)

-- ---- every input: a NaN
pub nan_root : (x : Float) → is_nan x ≡ true → IsRoot x x
nan_root x h = let e = is_nan_lem x h in rw e

-- a zero
zero_root : (s : Bool) → IsRoot (of_fields binary64 s 0 0) (of_fields binary64 s 0 0)
unfolding of_fields
zero_root s = refl

pub at_zero : (b : ℕ) → b % 2 ^ 63 ≡ 0 → IsRoot (of_bits binary64 b) (of_bits binary64 b)
unfolding of_bits
at_zero b h =
    let e : b % 2 ^ 63 / 2 ^ 52 ≡ 0 = omega arith in
    let d : b % 2 ^ 52 ≡ 0 = omega arith in
    rw (e, d) (zero_root (leb (2 ^ 63) b))

-- +inf, or a NaN
pub at_infinity : (b : ℕ) → 2047 * 2 ^ 52 ≤ b → b < 2 ^ 63 → IsRoot (of_bits binary64 b) (of_bits binary64 b)
at_infinity b l h = go (dec_lt (2047 * 2 ^ 52) b)
  where
    go : Dec (2047 * 2 ^ 52 < b) → IsRoot (of_bits binary64 b) (of_bits binary64 b)
    go (yes k) = rw (above_nan binary64 b (omega arith))
    go (no k) = rw (pattern-inf binary64 b (omega arith), lt-leb (2 ^ 63) b h)

-- below zero
below_root : (x : Float) (a c : ℕ) → HasValue x true a c → 0 < a → IsRoot x nan
below_root nan a c h p = refl
below_root (inf s) a c h p = absurd h
below_root (fin false m e) a c h p = absurd (false≢true h.0)
below_root (fin true zero e) a c h p = absurd (omega (arith, mul-pos p (down_pos e), h.1, zero-mul (up e), ap (λ (n : ℕ). n * c) (zero-mul (up e)), zero-mul c))
below_root (fin true (suc m) e) a c h p = refl

pub at_minus : (b : ℕ) → 2 ^ 63 < b → b < 2 ^ 64 → IsRoot (of_bits binary64 b) nan
at_minus b l h = go (dec_lt (b % 2 ^ 63) (2047 * 2 ^ 52)) (dec_lt (2047 * 2 ^ 52) (b % 2 ^ 63))
  where
    s : leb (2 ^ 63) b ≡ true
    s = le-leb (2 ^ 63) b (omega arith)

    go : Dec (b % 2 ^ 63 < 2047 * 2 ^ 52) → Dec (2047 * 2 ^ 52 < b % 2 ^ 63) → IsRoot (of_bits binary64 b) nan
    go (yes k) d = below_root (of_bits binary64 b) (mag binary64 (b % 2 ^ 63)) (2 ^ 1074) (rw s at (pattern-value binary64 b k)) (mag_pos binary64 (b % 2 ^ 63) (omega arith))
    go (no k) (yes d) = rw (above_nan binary64 b d)
    go (no k) (no d) = rw (pattern-inf binary64 b (omega arith), s)

-- above zero
pub root_positive : (x r : Float) → T (positive x) → Root x r → IsRoot x r
root_positive nan r p h = absurd p
root_positive (inf s) r p h = absurd p
root_positive (fin true m e) r p h = absurd p
root_positive (fin false zero e) r p h = absurd p
root_positive (fin false (suc m) e) r p h = h

pub positive_root : (x r : Float) → T (positive x) → IsRoot x r → Root x r
positive_root nan r p h = absurd p
positive_root (inf s) r p h = absurd p
positive_root (fin true m e) r p h = absurd p
positive_root (fin false zero e) r p h = absurd p
positive_root (fin false (suc m) e) r p h = h

pub positive_bits : (b : ℕ) → 0 < b → b < 2047 * 2 ^ 52 → T (positive (of_bits binary64 b))
positive_bits b p h = positive_of_value (of_bits binary64 b) (mag binary64 b) (2 ^ 1074) (plain_value binary64 b h) (mag_pos binary64 b p)

-- a normal number's pattern
pub ordinary : (b : ℕ) → 2 ^ 52 ≤ b → b < 2047 * 2 ^ 52 → Ordinary (of_bits binary64 b)
ordinary b l h =
    let n = finite_number (of_bits binary64 b) (positive-finite (of_bits binary64 b) (positive_bits b (omega arith) h)) in
    let e : to_bits binary64 (of_bits binary64 b) ≡ b = to_bits-of_bits binary64 b (omega arith) n in
    record { number = n; low = rw e l; high = rw e h }

pub at-number : (b : ℕ) (r : Float) → 0 < b → b < 2047 * 2 ^ 52 → Root (of_bits binary64 b) r → IsRoot (of_bits binary64 b) r
at-number b r p h k = root_positive (of_bits binary64 b) r (positive_bits b p h) k
