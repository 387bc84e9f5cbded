-- `valid` is true exactly of RFC 3629's UTF8-octets.
use mathlib.Core.Path.{◌≡◌, refl}
use mathlib.Core.Logic.{◌⊎◌, inl, inr, ⊎_elim}
use mathlib.Core.Bool.{Bool, true, false, ◌&&◌, ◌||◌, or-true, false≢true}
use mathlib.Core.List.{List, [], ◌∷◌, ◌++◌}
use Prim.Native.Nat.{ℕ}
use Rattle.utf8.specs.Grammar.{one, two, three, four, Octets, end, char₁, char₂, char₃, char₄}
use Rattle.utf8.specs.Utf8.{valid, valid₁, valid₂, valid₃}

either : (a b : Bool) → (a || b) ≡ true → (a ≡ true) ⊎ (b ≡ true)
either true b h = inl refl
either false b h = inr h

both : (a b : Bool) → (a && b) ≡ true → (a ≡ true) × (b ≡ true)
both true b h = (refl, h)
both false b h = absurd (false≢true h)

mutual
  unfolding valid

  pub sound : (s : List ℕ) → valid s ≡ true → Octets s
  sound [] h = end
  sound (a ∷ s) h =
      ⊎_elim (λ g. let k = both (one a) (valid s) g in char₁ a k.0 (sound s k.1)) (λ g. sound₁ s a g) (either (one a && valid s) (valid₁ s a) h)

  sound₁ : (s : List ℕ) (a : ℕ) → valid₁ s a ≡ true → Octets (a ∷ s)
  sound₁ [] a h = absurd (false≢true h)
  sound₁ (b ∷ s) a h =
      ⊎_elim (λ g. let k = both (two a b) (valid s) g in char₂ a b k.0 (sound s k.1)) (λ g. sound₂ s a b g) (either (two a b && valid s) (valid₂ s a b) h)

  sound₂ : (s : List ℕ) (a b : ℕ) → valid₂ s a b ≡ true → Octets (a ∷ b ∷ s)
  sound₂ [] a b h = absurd (false≢true h)
  sound₂ (c ∷ s) a b h =
      ⊎_elim (λ g. let k = both (three a b c) (valid s) g in char₃ a b c k.0 (sound s k.1)) (λ g. sound₃ s a b c g) (either (three a b c && valid s) (valid₃ s a b c) h)

  sound₃ : (s : List ℕ) (a b c : ℕ) → valid₃ s a b c ≡ true → Octets (a ∷ b ∷ c ∷ s)
  sound₃ [] a b c h = absurd (false≢true h)
  sound₃ (d ∷ s) a b c h = let k = both (four a b c d) (valid s) h in char₄ a b c d k.0 (sound s k.1)

pub complete : {s : List ℕ} → Octets s → valid s ≡ true
unfolding valid
complete end = refl
complete (char₁ a e o) = rw (e, complete o)
complete (char₂ a b e o) = simp (e, complete o, or-true)
complete (char₃ a b c e o) = simp (e, complete o, or-true)
complete (char₄ a b c d e o) = simp (e, complete o, or-true)

joined : {s t : List ℕ} → Octets s → Octets t → Octets (s ++ t)
joined end q = q
joined (char₁ a e o) q = char₁ a e (joined o q)
joined (char₂ a b e o) q = char₂ a b e (joined o q)
joined (char₃ a b c e o) q = char₃ a b c e (joined o q)
joined (char₄ a b c d e o) q = char₄ a b c d e (joined o q)

pub valid-append : (s t : List ℕ) → valid s ≡ true → valid t ≡ true → valid (s ++ t) ≡ true
valid-append s t p q = complete (joined (sound s p) (sound t q))
