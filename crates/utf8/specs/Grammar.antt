-- RFC 3629, section 4, as it stands there: "UTF8-octets = *( UTF8-char )" and the lines below it.
-- (Document 01, Layouts: "UTF-8 model", "UTF-8 metadata".)
use Rattle.std.specs.Prelude.{◌≡◌, Bool, true, ◌&&◌, ◌||◌, List, [], ◌∷◌, ℕ, leb}

-- %xLO-HI
unfoldable pub span : ℕ → ℕ → ℕ → Bool
span lo hi x = leb lo x && leb x hi

-- UTF8-tail = %x80-BF
abbrev pub tail : ℕ → Bool
tail x = span 0x80 0xBF x

-- UTF8-1 = %x00-7F
abbrev pub one : ℕ → Bool
one a = span 0x00 0x7F a

-- UTF8-2 = %xC2-DF UTF8-tail
abbrev pub two : ℕ → ℕ → Bool
two a b = span 0xC2 0xDF a && tail b

-- UTF8-3 = %xE0 %xA0-BF UTF8-tail / %xE1-EC 2( UTF8-tail ) / %xED %x80-9F UTF8-tail / %xEE-EF 2( UTF8-tail )
abbrev pub three : ℕ → ℕ → ℕ → Bool
three a b c =
    (span 0xE0 0xE0 a && span 0xA0 0xBF b || span 0xE1 0xEC a && tail b || span 0xED 0xED a && span 0x80 0x9F b || span 0xEE 0xEF a && tail b)
    && tail c

-- UTF8-4 = %xF0 %x90-BF 2( UTF8-tail ) / %xF1-F3 3( UTF8-tail ) / %xF4 %x80-8F 2( UTF8-tail )
abbrev pub four : ℕ → ℕ → ℕ → ℕ → Bool
four a b c d =
    (span 0xF0 0xF0 a && span 0x90 0xBF b || span 0xF1 0xF3 a && tail b || span 0xF4 0xF4 a && span 0x80 0x8F b) && tail c && tail d

-- UTF8-octets: a row of UTF8-char, each of them UTF8-1, UTF8-2, UTF8-3 or UTF8-4
pub data Octets : List ℕ → Type 0 where
  end : Octets []
  char₁ : (a : ℕ) {s : List ℕ} → one a ≡ true → Octets s → Octets (a ∷ s)
  char₂ : (a b : ℕ) {s : List ℕ} → two a b ≡ true → Octets s → Octets (a ∷ b ∷ s)
  char₃ : (a b c : ℕ) {s : List ℕ} → three a b c ≡ true → Octets s → Octets (a ∷ b ∷ c ∷ s)
  char₄ : (a b c d : ℕ) {s : List ℕ} → four a b c d ≡ true → Octets s → Octets (a ∷ b ∷ c ∷ d ∷ s)
