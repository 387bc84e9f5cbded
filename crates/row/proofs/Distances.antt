-- A whole number as a float, and what a distance answers.
use mathlib.Core.Path.{◌≡◌, refl}
use mathlib.Core.Bool.{true, false, false≢true, true≢false}
use Prim.Native.Nat.{ℕ, ◌≤◌, ◌^◌}
use native.Mathlib.Omega.{arith}
use lib.Dec.{T, le→leb, lt→ltb}
use lib.IntN.{ℤ, pos, negsuc, nat_abs}
use lib.Ieee.{Float, nan, inf, fin, binary64, in_float}
use lib.Ieee.Scale.{finite as fine}
use mir.Syntax.{w64}
use mir.Val.{to_z, of_z}
use mir.Facts.{to_z-of_z}
use Rattle.codes.proofs.Numbers.{small}
use Rattle.config.specs.declared.Number.TheVariants.{Approximate}
use Rattle.row.specs.Answer.{measured}
use Rattle.row.specs.declared.RowAnswer.TheVariants.{Distance, Refused}

pub in_float_lem : (z : ℤ) → nat_abs z ≤ 9007199254740992 → T (in_float binary64 z)
unfolding in_float
in_float_lem (pos n) h = le→leb n (2 ^ 53) h
in_float_lem (negsuc n) h = lt→ltb n (2 ^ 53) (omega arith)

pub held : (z : ℤ) → nat_abs z ≤ 9007199254740992 → to_z w64 (of_z w64 z) ≡ z
held z h = to_z-of_z (small {w = w64} {x = z} (omega arith))

pub finite : (p : ℕ) (x : Float) → fine x ≡ true → Distance x ≡ measured p x
unfolding measured
finite p nan h = absurd (false≢true h)
finite p (inf s) h = absurd (false≢true h)
finite p (fin s m e) h = refl

pub not_finite : (p : ℕ) (x : Float) → fine x ≡ false → Refused (record { number = Approximate; place = p }) ≡ measured p x
unfolding measured
not_finite p nan h = refl
not_finite p (inf s) h = refl
not_finite p (fin s m e) h = absurd (true≢false h)
