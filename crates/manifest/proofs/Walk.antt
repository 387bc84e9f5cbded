-- The walk over a segment's rows.
use mathlib.Core.Path.{◌≡◌, refl}
use mathlib.Core.Bool.{false, ◌&&◌}
use mathlib.Core.List.{List, [], ◌∷◌, map}
use Prim.Native.Nat.{ℕ, ◌+◌, ◌≤◌, ◌<◌}
use native.Mathlib.Numerals.{add-one}
use native.Mathlib.Omega.{arith}
use lib.Dec.{eqb}
use lib.ListN.{length, get_or, drop, drop_of_length-le}
use lib.Seq.{drop-cons}
use Rattle.format.specs.Fields.{offset_at, record_length}
use Rattle.manifest.specs.Tiling.{follow, covers}
use Rattle.manifest.specs.Scratch.{key_row}

module _ (m : List ℕ) (size : ℕ) (keys : List ℕ) where
  pub follow_turn : (at i : ℕ) → i < length keys
      → follow m size at (map key_row (drop i keys))
      ≡ (eqb (offset_at m (key_row (get_or keys i 0))) at
      && follow m size (offset_at m (key_row (get_or keys i 0)) + record_length m (key_row (get_or keys i 0))) (map key_row (drop (i + 1) keys)))
  unfolding follow
  follow_turn at i h = rw (drop-cons keys i 0 h, add-one i)

  pub follow_done : (at i : ℕ) → length keys ≤ i → follow m size at (map key_row (drop i keys)) ≡ eqb (at + 4) size
  unfolding follow
  follow_done at i h = rw (drop_of_length-le keys {i = i} h)

-- a segment without rows is not covered, and one with rows is where they follow each other from 0
pub covers-none : (m : List ℕ) (size : ℕ) (keys : List ℕ) → length keys ≡ 0 → false ≡ covers m size (map key_row keys)
unfolding covers
covers-none m size [] h = refl
covers-none m size (k ∷ ks) h = absurd (omega arith)

pub covers-some : (m : List ℕ) (size : ℕ) (keys : List ℕ) → (length keys ≡ 0 → ⊥) → follow m size 0 (map key_row keys) ≡ covers m size (map key_row keys)
unfolding covers
covers-some m size [] h = absurd (h refl)
covers-some m size (k ∷ ks) h = refl
