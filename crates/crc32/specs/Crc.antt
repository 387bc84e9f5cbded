-- CRC-32 by its definition, a bit a step (document 01, Layouts: "CRC-32 is reflected, polynomial EDB88320 (hexadecimal), start and
-- final complement").
use Rattle.std.specs.Prelude.{Bool, ◌&&◌, List, [], ◌∷◌, ℕ, zero, suc, ◌-◌, ◌*◌, ◌/◌, ◌%◌, leb, eqb, length, take}
use Rattle.std.specs.Int.Bits.{bit_xor}
use Rattle.le.specs.Le.{le_at}

-- one bit: shift right, and xor the polynomial where a 1 fell out
unfoldable pub step : ℕ → ℕ
step c = bit_xor (c / 2) (c % 2 * 0xEDB88320)

unfoldable pub steps : ℕ → ℕ → ℕ
steps zero c = c
steps (suc n) c = steps n (step c)

-- the sum after the bytes s, from the sum c before them
unfoldable pub update : ℕ → List ℕ → ℕ
update c [] = c
update c (x ∷ s) = update (steps 8 (bit_xor c x)) s

abbrev pub finish : ℕ → ℕ
finish c = bit_xor c 0xFFFFFFFF

unfoldable pub crc32 : List ℕ → ℕ
crc32 s = finish (update 0xFFFFFFFF s)

-- bytes that end in the CRC-32 of all before it (document 01, Layouts: the last field of a manifest and of a cache); under 4 bytes end in none
unfoldable pub ends_in_crc : List ℕ → Bool
ends_in_crc s = leb 4 (length s) && eqb (crc32 (take (length s - 4) s)) (le_at 4 s (length s - 4))
