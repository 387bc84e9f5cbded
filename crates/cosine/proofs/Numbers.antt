-- What the code's tests and types say of its integers.
use mathlib.Core.Path.{◌≡◌, refl}
use mathlib.Core.Bool.{Bool, true, false, ◌||◌, true≢false}
use Prim.Native.Nat.{ℕ, ◌*◌, ◌^◌, ◌≤◌, ◌<◌}
use native.Mathlib.Nat.{mul-le-mul}
use native.Mathlib.Omega.{arith}
use lib.IntN.{ℤ, pos, negsuc, nat_abs}
use lib.Dec.{T}
use lib.Signed.{lt_z, le_z, non_neg}
use mir.Syntax.{w32, w64}
use mir.Val.{SFits, Fits}
use borrow.Author.Tests.{ltb-true, leb-false}
use Rattle.cosine.specs.Far.{positive_part}

pub small : (z : ℤ) → SFits w32 z → nat_abs z ≤ 2147483648
small (pos n) f = omega (arith, f.sfits)
small (negsuc n) f = omega (arith, f.sfits)

-- the test `d < 0`
pub signed : (z : ℤ) → lt_z z (pos 0) ≡ true → 0 ≡ positive_part z
signed (pos n) h = absurd (omega (arith, ltb-true n 0 h))
signed (negsuc n) h = refl

pub plain : (z : ℤ) → lt_z z (pos 0) ≡ false → nat_abs z ≡ positive_part z
plain (pos n) h = refl
plain (negsuc n) h = absurd (true≢false h)

pub unsigned : (z : ℤ) → lt_z z (pos 0) ≡ false → pos (nat_abs z) ≡ z
unsigned (pos n) h = refl
unsigned (negsuc n) h = absurd (true≢false h)

pub casts : (z : ℤ) → nat_abs z < 2 ^ 63 → lt_z z (pos 0) ≡ false → T (non_neg z) × Fits w64 (nat_abs z)
casts (pos n) f h = (tt, record { fits = omega arith })
casts (negsuc n) f h = absurd (true≢false h)

pub product-fits : (a b c : ℕ) → a ≤ c → b ≤ c → c * c < 2 ^ 64 → Fits w64 (a * b)
product-fits a b c h k l = record { fits = omega (arith, mul-le-mul h k) }

pub cube : (g q : ℕ) → g < 65536 → q < 67108864 → g * g * q ≤ 65535 * 65535 * 67108863
cube g q h k =
    let a : g ≤ 65535 = omega arith in
    let b : q ≤ 67108863 = omega arith in
    mul-le-mul (mul-le-mul a a) b

-- the test `(z < 0) | (67108864 <= z)`
pub in_range : (z : ℤ) → (lt_z z (pos 0) || le_z (pos 67108864) z) ≡ false → (lt_z z (pos 0) ≡ false) × (nat_abs z < 67108864)
in_range z h = let p = neither (lt_z z (pos 0)) (le_z (pos 67108864) z) h in (p.0, size z p.0 p.1)
  where
    neither : (a b : Bool) → (a || b) ≡ false → (a ≡ false) × (b ≡ false)
    neither true b h = absurd (true≢false h)
    neither false b h = (refl, h)

    size : (z : ℤ) → lt_z z (pos 0) ≡ false → le_z (pos 67108864) z ≡ false → nat_abs z < 67108864
    size (pos n) a b = leb-false 67108864 n b
    size (negsuc n) a b = absurd (true≢false a)
