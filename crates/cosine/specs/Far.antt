-- Between functions: what they promise one another. No contract of an entry and no theorem rests on this file.
-- A row that is known to be too far by its norm and its dot product alone (document 01, The arithmetic, Approximate: "Cosine is
-- 1 - dot / (root(norm) × root(qnorm)), held in 0..2"; "Order: IEEE 754 totalOrder on distance, then id").
use Rattle.std.specs.Prelude.{◌≡◌, Bool, true, ℕ, ◌*◌, ◌/◌, ◌^◌, ◌≤◌, ◌<◌, T, ltb, ℤ, pos, negsuc, nat_abs, Float}
use Rattle.std.specs.Float.{binary64}
use Rattle.std.specs.Float.Ieee.{to_bits}
use Rattle.std.specs.Float.Ieee.Scale.{finite}
use Rattle.float.specs.Order.{key_of}
use Rattle.row.specs.Distance.{cosine_by}

abbrev pub positive_part : ℤ → ℕ
positive_part (pos n) = n
positive_part (negsuc n) = 0

-- the test of a row with the norm n and the dot product d, by the limit t
unfoldable pub is_far : ℕ → ℤ → ℕ → Bool
is_far n d t = ltb (positive_part d * positive_part d) (t * n / 64)

-- t is a limit for the query's root and the worst key that is kept: a row that is too far by it has a finite distance, so that it is no
-- refusal, and a key over the worst
pub record Far (root : Float) (worst t : ℕ) : Type 0 where
  pub turns : (n : ℕ) (d : ℤ) → 1 ≤ n → n < 2 ^ 32 → nat_abs d ≤ 2 ^ 31 → is_far n d t ≡ true
      → T (finite (cosine_by (pos n) root d)) × (worst < key_of (to_bits binary64 (cosine_by (pos n) root d)))
