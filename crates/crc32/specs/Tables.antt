-- The tables of the sum.
use Rattle.std.specs.Prelude.{◌≡◌, List, [], ◌∷◌, ℕ, zero, suc, ◌+◌, ◌*◌, ◌/◌, ◌%◌, ◌<◌, length, get_or}
use Rattle.crc32.specs.Crc.{steps}

-- g i, g (i + 1), .. : n of them
abbrev pub tab : (ℕ → ℕ) → ℕ → ℕ → List ℕ
tab g i zero = []
tab g i (suc n) = g i ∷ tab g (suc i) n

-- the table for a byte at a time (document 01, Layouts: "the 256-entry CRC table obeys the shift rule at every entry")
unfoldable pub entries : List ℕ
entries = tab (steps 8) 0 256

-- the tables for eight bytes at a time, one after the other: entry 256 * j + k is k after 8 * (j + 1) steps
unfoldable pub slot : ℕ → ℕ
slot i = steps (8 + 8 * (i / 256)) (i % 256)

unfoldable pub slots : List ℕ
slots = tab slot 0 2048

-- the first i entries of a table of n are made
pub record Filled (g : ℕ → ℕ) (n : ℕ) (t : List ℕ) (i : ℕ) : Type 0 where
  pub size : length t ≡ n
  pub upto : (k : ℕ) → k < i → get_or t k 0 ≡ g k
