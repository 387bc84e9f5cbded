-- Four values.
use mathlib.Core.Path.{◌≡◌, refl}
use mathlib.Core.Bool.{Bool, true, false, ◌&&◌, false≢true}
use mathlib.Core.List.{[], ◌∷◌}
use Prim.Native.Nat.{ℕ, zero, suc, ◌<◌}
use native.Mathlib.Omega.{arith}
use lib.ListN.{get_or}
use lib.Ieee.{Float, nan}
use Rattle.float.specs.Values.{quad}

pub four-alike : {a b c d e f g h : Float} → a ≡ e → b ≡ f → c ≡ g → d ≡ h → a ∷ b ∷ c ∷ d ∷ [] ≡ e ∷ f ∷ g ∷ h ∷ []
four-alike p q r s = rw (p, q, r, s)

-- four tests that all hold
pub all-four : (p q r s : Bool) → (p && q && r && s) ≡ true → (p ≡ true) × (q ≡ true) × (r ≡ true) × (s ≡ true)
all-four true true true s h = (refl, refl, refl, h)
all-four false q r s h = absurd (false≢true h)
all-four true false r s h = absurd (false≢true h)
all-four true true false s h = absurd (false≢true h)

pub quad_at : (g : ℕ → Float) (k : ℕ) → k < 4 → get_or (quad g) k nan ≡ g k
quad_at g zero h = refl
quad_at g (suc zero) h = refl
quad_at g (suc (suc zero)) h = refl
quad_at g (suc (suc (suc zero))) h = refl
quad_at g (suc (suc (suc (suc k)))) h = absurd (omega arith)
