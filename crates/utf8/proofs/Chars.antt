-- The first character of a list that is long enough or ends, by the tests of the grammar.
use mathlib.Core.Path.{◌≡◌, refl, sym, ◌∙◌}
use mathlib.Core.Bool.{Bool, true, false, cond, ◌&&◌, and-false, or-false, false≢true}
use Rattle.std.specs.Prelude.{Option, Some, None}
use mathlib.Core.List.{List, [], ◌∷◌}
use Prim.Native.Nat.{ℕ, ◌-◌, ◌<◌, ◌≤◌}
use native.Mathlib.Omega.{arith}
use borrow.Author.Tests.{lt-leb, lt-ltb, ltb-true, ltb-false}
use lib.Dec.{leb, ltb}
use lib.ListN.{length, get_or, take, drop, length-drop}
use lib.Seq.{take_all}
use Rattle.le.proofs.Chain.{by}
use Rattle.utf8.specs.Grammar.{span, one, two, three, four}
use Rattle.utf8.specs.Utf8.{valid, valid₁, valid₂, valid₃, width, width₁, width₂, width₃, stage}

-- what the length of the first character says of the list
abbrev pub Char : List ℕ → Option ℕ → Type 0
Char l None = valid l ≡ false
Char l (Some n) = (0 < n) × (n ≤ length l) × (valid l ≡ valid (drop n l))

span_below : (lo hi x : ℕ) → x < lo → span lo hi x ≡ false
unfolding span
span_below lo hi x h = rw (lt-leb lo x h)

span_above : (lo hi x : ℕ) → hi < x → span lo hi x ≡ false
unfolding span
span_above lo hi x h = rw (lt-leb x hi h) (and-false (leb lo x))

-- a test that fails from n on passes only below n
only_below : (n a : ℕ) (t : Bool) → (n ≤ a → t ≡ false) → t ≡ true → a < n
only_below n a t f h = by (ltb a n) (λ e. ltb-true a n e) (λ e. absurd (false≢true (sym (f (ltb-false a n e)) ∙ h)))

one_lt : (a : ℕ) → one a ≡ true → a < 0x80
one_lt a = only_below 0x80 a (one a) (λ g. span_above 0 0x7F a g)

two_lt : (a b : ℕ) → two a b ≡ true → a < 0xE0
two_lt a b = only_below 0xE0 a (two a b) (λ g. rw (span_above 0xC2 0xDF a g))

three_lt : (a b c : ℕ) → three a b c ≡ true → a < 0xF0
three_lt a b c =
    only_below 0xF0 a (three a b c)
    (λ g. rw (span_above 0xE0 0xE0 a (omega arith), span_above 0xE1 0xEC a (omega arith), span_above 0xED 0xED a (omega arith), span_above 0xEE 0xEF a (omega arith)))

-- no longer character starts with a smaller byte
no₃ : (s : List ℕ) (a b c : ℕ) → a < 0xF0 → valid₃ s a b c ≡ false
unfolding valid
no₃ [] a b c h = refl
no₃ (d ∷ s) a b c h = rw (span_below 0xF0 0xF0 a (omega arith), span_below 0xF1 0xF3 a (omega arith), span_below 0xF4 0xF4 a (omega arith))

no₂ : (s : List ℕ) (a b : ℕ) → a < 0xE0 → valid₂ s a b ≡ false
unfolding valid
no₂ [] a b h = refl
no₂ (c ∷ s) a b h =
    rw (span_below 0xE0 0xE0 a (omega arith), span_below 0xE1 0xEC a (omega arith), span_below 0xED 0xED a (omega arith), span_below 0xEE 0xEF a (omega arith))
    (no₃ s a b c (omega arith))

no₁ : (s : List ℕ) (a : ℕ) → a < 0xC2 → valid₁ s a ≡ false
unfolding valid
no₁ [] a h = refl
no₁ (b ∷ s) a h = rw (span_below 0xC2 0xDF a (omega arith)) (no₂ s a b (omega arith))

-- where the list goes on, and where it ends
module _ (a : ℕ) (h₁ : one a ≡ false) where
  short₁ : Char (a ∷ []) None
  unfolding valid
  short₁ = rw h₁

  has₂ : (b : ℕ) (s : List ℕ) → two a b ≡ true → Char (a ∷ b ∷ s) (Some 2)
  unfolding valid
  has₂ b s e = (omega arith, omega arith, rw (h₁, e, no₂ s a b (two_lt a b e)) (or-false (valid s)))

  module _ (b : ℕ) (h₂ : two a b ≡ false) where
    short₂ : Char (a ∷ b ∷ []) None
    unfolding valid
    short₂ = rw (h₁, h₂)

    has₃ : (c : ℕ) (s : List ℕ) → three a b c ≡ true → Char (a ∷ b ∷ c ∷ s) (Some 3)
    unfolding valid
    has₃ c s e = (omega arith, omega arith, rw (h₁, h₂, e, no₃ s a b c (three_lt a b c e)) (or-false (valid s)))

    module _ (c : ℕ) (h₃ : three a b c ≡ false) where
      short₃ : Char (a ∷ b ∷ c ∷ []) None
      unfolding valid
      short₃ = rw (h₁, h₂, h₃)

      has₄ : (d : ℕ) (s : List ℕ) → four a b c d ≡ true → Char (a ∷ b ∷ c ∷ d ∷ s) (Some 4)
      unfolding valid
      has₄ d s e = (omega arith, omega arith, rw (h₁, h₂, h₃, e))

      none₄ : (d : ℕ) (s : List ℕ) → four a b c d ≡ false → Char (a ∷ b ∷ c ∷ d ∷ s) None
      unfolding valid
      none₄ d s e = rw (h₁, h₂, h₃, e)

has₁ : (a : ℕ) (s : List ℕ) → one a ≡ true → Char (a ∷ s) (Some 1)
unfolding valid
has₁ a s e = (omega arith, omega arith, rw (e, no₁ s a (omega (arith, one_lt a e))) (or-false (valid s)))

-- the code's walk: `width` is the length of the first character
char₃ : (a b c : ℕ) (s : List ℕ) → one a ≡ false → two a b ≡ false → three a b c ≡ false → Char (a ∷ b ∷ c ∷ s) (width₃ a b c s)
unfolding width₃ stage
char₃ a b c [] p q r = short₃ a p b q c r
char₃ a b c (d ∷ s) p q r = by (four a b c d) (λ e. rw e (has₄ a p b q c r d s e)) (λ e. rw e (none₄ a p b q c r d s e))

char₂ : (a b : ℕ) (s : List ℕ) → one a ≡ false → two a b ≡ false → Char (a ∷ b ∷ s) (width₂ a b s)
unfolding width₂ stage
char₂ a b [] p q = short₂ a p b q
char₂ a b (c ∷ s) p q = by (three a b c) (λ e. rw e (has₃ a p b q c s e)) (λ e. rw e (char₃ a b c s p q e))

char₁ : (a : ℕ) (s : List ℕ) → one a ≡ false → Char (a ∷ s) (width₁ a s)
unfolding width₁ stage
char₁ a [] p = short₁ a p
char₁ a (b ∷ s) p = by (two a b) (λ e. rw e (has₂ a p b s e)) (λ e. rw e (char₂ a b s p e))

pub char : (l : List ℕ) → 0 < length l → Char l (width l)
unfolding width stage
char [] h = absurd (omega arith)
char (a ∷ s) h = by (one a) (λ e. rw e (has₁ a s e)) (λ e. rw e (char₁ a s e))

-- the loop: a turn, and both ends
pub passed : (l : List ℕ) {n : ℕ} → 0 < length l → Some n ≡ width l → valid (take (length l - n) (drop n l)) ≡ valid l
passed l {n} h e =
    let k = rw (sym e) at (char l h) in
    let m : length (drop n l) ≤ length l - n = omega (arith, length-drop n l) in
    rw (take_all (length l - n) (drop n l) m) (sym k.2)

pub stopped : (l : List ℕ) → 0 < length l → None ≡ width l → valid l ≡ false
stopped l h e = rw (sym e) at (char l h)

pub ended : (l : List ℕ) → length l ≡ 0 → valid l ≡ true
unfolding valid
ended [] h = refl
ended (x ∷ s) h = absurd (omega arith)

-- `width` by the bytes' indices, as the code tests them
pub by_index : (l : List ℕ) → width l
    ≡ cond (ltb 0 (length l) && one (get_or l 0 0)) (Some 1)
    (cond (ltb 1 (length l) && two (get_or l 0 0) (get_or l 1 0)) (Some 2)
    (cond (ltb 2 (length l) && three (get_or l 0 0) (get_or l 1 0) (get_or l 2 0)) (Some 3)
    (cond (ltb 3 (length l) && four (get_or l 0 0) (get_or l 1 0) (get_or l 2 0) (get_or l 3 0)) (Some 4) None)))
unfolding width width₁ width₂ width₃ stage
by_index [] = refl
by_index (a ∷ []) = refl
by_index (a ∷ b ∷ []) = refl
by_index (a ∷ b ∷ c ∷ []) = refl
by_index (a ∷ b ∷ c ∷ d ∷ s) =
    let n = length (a ∷ b ∷ c ∷ d ∷ s) in
    rw (lt-ltb 0 n (omega arith), lt-ltb 1 n (omega arith), lt-ltb 2 n (omega arith), lt-ltb 3 n (omega arith))
