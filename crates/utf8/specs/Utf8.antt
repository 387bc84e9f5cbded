-- The grammar as a test that computes; `proofs/Grammar.antt` proves that `valid s` is true exactly of the `Octets`.
use Rattle.std.specs.Prelude.{Bool, true, false, ◌&&◌, ◌||◌, cond, List, [], ◌∷◌, ℕ, Option, Some, None}
use Rattle.utf8.specs.Grammar.{one, two, three, four}

-- nothing, or a character and what is valid after it
unfoldable mutual
  pub valid : List ℕ → Bool
  valid [] = true
  valid (a ∷ s) = one a && valid s || valid₁ s a

  pub valid₁ : List ℕ → ℕ → Bool
  valid₁ [] a = false
  valid₁ (b ∷ s) a = two a b && valid s || valid₂ s a b

  pub valid₂ : List ℕ → ℕ → ℕ → Bool
  valid₂ [] a b = false
  valid₂ (c ∷ s) a b = three a b c && valid s || valid₃ s a b c

  pub valid₃ : List ℕ → ℕ → ℕ → ℕ → Bool
  valid₃ [] a b c = false
  valid₃ (d ∷ s) a b c = four a b c d && valid s

-- the next byte x of a character: where it passes the test, the character is n bytes long; else it goes on as `rest` says
unfoldable pub stage : (ℕ → Bool) → ℕ → (ℕ → List ℕ → Option ℕ) → List ℕ → Option ℕ
stage test n rest [] = None
stage test n rest (x ∷ s) = cond (test x) (Some n) (rest x s)

-- the length of the character that a list starts with: after three of its bytes, two, one, none
unfoldable pub width₃ : ℕ → ℕ → ℕ → List ℕ → Option ℕ
width₃ a b c = stage (four a b c) 4 (λ d s. None)

unfoldable pub width₂ : ℕ → ℕ → List ℕ → Option ℕ
width₂ a b = stage (three a b) 3 (width₃ a b)

unfoldable pub width₁ : ℕ → List ℕ → Option ℕ
width₁ a = stage (two a) 2 (width₂ a)

unfoldable pub width : List ℕ → Option ℕ
width = stage one 1 width₁
