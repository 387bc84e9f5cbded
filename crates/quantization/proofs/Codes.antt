-- Codes as integers: a magnitude with a sign, as a byte and in wider types, the sum of squares, and the bound.
use mathlib.Core.Path.{◌≡◌, refl, ◌∙◌}
use mathlib.Core.Bool.{Bool, true, false, ◌&&◌}
use mathlib.Core.List.{List, [], ◌∷◌, map}
use Prim.Native.Nat.{ℕ, zero, suc, ◌-◌, ◌*◌, ◌%◌, ◌≤◌}
use native.Mathlib.Nat.{mul-le-mul}
use native.Mathlib.Omega.{arith}
use borrow.Author.Tests.{lt-ltb, le-ltb, le-leb}
use lib.Dec.{T, leb, leb→le}
use lib.IntN.{ℤ, pos, negsuc, neg_ℤ, nat_abs, ◌-ℤ◌, +ℤ_idl}
use lib.ListN.{get_or}
use lib.Ieee.Bits.{is_true}
use lib.Ieee.Fits.{and_l, and_r}
use mir.Syntax.{w8, w16}
use mir.Val.{SFits, to_z, of_z}
use mir.Facts.{to_z_pos, to_z-of_z, sfits_widen}
use Rattle.codes.specs.Codes.{signed, within}
use Rattle.quantization.specs.Encoder.{signed_by}

-- ---- a magnitude with a sign
pub abs-signed : (s : Bool) (m : ℕ) → nat_abs (signed_by s m) ≡ m
abs-signed true zero = refl
abs-signed true (suc m) = refl
abs-signed false m = refl

pub signed-fits : (s : Bool) (m : ℕ) → m ≤ 127 → SFits w8 (signed_by s m)
signed-fits true zero h = record { sfits = omega arith }
signed-fits true (suc m) h = record { sfits = omega arith }
signed-fits false m h = record { sfits = omega arith }

-- what stands in a local
pub as_i8 : {r : ℤ} (s : Bool) (m : ℕ) → m ≤ 127 → r ≡ signed_by s m → to_z w8 (of_z w8 r) ≡ signed_by s m
as_i8 s m h e = rw e (to_z-of_z (signed-fits s m h))

-- what the code makes of a magnitude
pub minus_is : (m : ℕ) → m ≤ 127 → pos 0 -ℤ to_z w8 m ≡ signed_by true m
minus_is m h = rw (to_z_pos w8 {n = m} (omega arith)) (+ℤ_idl (neg_ℤ (pos m)))

-- ---- sums and bounds
pub square_le : (m : ℕ) → m ≤ 127 → m * m ≤ 16129
square_le m h = mul-le-mul h h

pub within-cons : (k : ℕ) (z : ℤ) (cs : List ℤ) → within k (z ∷ cs) ≡ true → (nat_abs z ≤ k) × (within k cs ≡ true)
unfolding within
within-cons k z cs h =
    let t : T (leb (nat_abs z) k && within k cs) = rw h tt in
    (leb→le (nat_abs z) k (and_l (leb (nat_abs z) k) (within k cs) t), is_true (within k cs) (and_r (leb (nat_abs z) k) (within k cs) t))

pub within-at : (k : ℕ) (cs : List ℤ) (i : ℕ) → within k cs ≡ true → nat_abs (get_or cs i (pos 0)) ≤ k
within-at k [] i h = omega arith
within-at k (z ∷ cs) zero h = (within-cons k z cs h).0
within-at k (z ∷ cs) (suc i) h = within-at k cs i (within-cons k z cs h).1

pub within_more : (k n : ℕ) → k ≤ n → (cs : List ℤ) → within k cs ≡ true → within n cs ≡ true
unfolding within
within_more k n l [] h = refl
within_more k n l (z ∷ cs) h = let c = within-cons k z cs h in rw (le-leb (nat_abs z) n (omega (arith, c.0)), within_more k n l cs c.1)

-- ---- back from bytes
byte_back : (z : ℤ) → nat_abs z ≤ 127 → signed (of_z w8 z) ≡ z
unfolding signed
byte_back (pos n) h = rw (lt-ltb n 128 (omega arith))
byte_back (negsuc n) h = let e : 255 - (256 - suc n) ≡ n = omega arith in rw (le-ltb (256 - suc n) 128 (omega arith), e)

pub bytes_back : (cs : List ℤ) → within 127 cs ≡ true → map signed (map (of_z w8) cs) ≡ cs
bytes_back [] h = refl
bytes_back (z ∷ cs) h = let k = within-cons 127 z cs h in rw (byte_back z k.0, bytes_back cs k.1)
