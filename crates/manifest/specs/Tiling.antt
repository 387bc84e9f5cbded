-- The tiling (document 01, table: "4: rows do not tile their segments"; readings R13: "4 is: a segment's first row not at 0, a gap, two
-- rows on one offset or overlapping, a segment without rows, or a last row that does not end at the length - 4").
use Rattle.std.specs.Prelude.{Bool, true, false, ◌&&◌, List, [], ◌∷◌, ℕ, ◌+◌, ◌*◌, ◌^◌, eqb}
use Rattle.rank.specs.Sort.{sort}
use Rattle.rank.specs.Limit.{by_key}
use Rattle.rank.specs.Rows.{passing}
use Rattle.format.specs.Order.{first_bad}
use Rattle.format.specs.Fields.{segments_of, rows_of, length_of, segment_at, offset_at, record_length}

-- where a row lies: its segment, and its offset there
unfoldable pub position : List ℕ → ℕ → ℕ
position m r = segment_at m r * 2 ^ 32 + offset_at m r

-- all rows by segment and offset
unfoldable pub physical : List ℕ → List ℕ
physical m = sort (by_key (position m)) (passing (λ r. true) (rows_of m))

-- the rows of segment n by offset
unfoldable pub in_segment : List ℕ → ℕ → List ℕ
in_segment m n = sort (by_key (position m)) (passing (λ r. eqb (segment_at m r) n) (rows_of m))

-- rows follow each other from `at` on, each where the one before it ends, and the segment ends 4 bytes, its CRC-32, after the last
unfoldable pub follow : List ℕ → ℕ → ℕ → List ℕ → Bool
follow m length at [] = eqb (at + 4) length
follow m length at (r ∷ rs) = eqb (offset_at m r) at && follow m length (offset_at m r + record_length m r) rs

-- a segment of this length has rows, and they follow each other from 0
unfoldable pub covers : List ℕ → ℕ → List ℕ → Bool
covers m length [] = false
covers m length (r ∷ rs) = follow m length 0 (r ∷ rs)

unfoldable pub tiled : List ℕ → Bool
tiled m = eqb (first_bad (λ n. covers m (length_of m n) (in_segment m n)) (segments_of m)) (segments_of m)
