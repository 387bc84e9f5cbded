-- The manifest's tests up to the tiling (document 01, table: "segment or row rule", "3: CRC-32 wrong, or not the expected one lent";
-- "a short scratch slice gives 11 before the tiling test").
use Rattle.std.specs.Prelude.{Bool, true, ◌&&◌, List, ℕ, zero, suc, ◌+◌, ltb, leb, eqb}
use Rattle.crc32.specs.Crc.{ends_in_crc}
use Rattle.config.specs.Limits.{max_metadata}
use Rattle.format.specs.Order.{unless, or_else, first_bad, next_bad}
use Rattle.format.specs.Fields.{segments_of, rows_of, length_of, id_at, segment_at, offset_at, metadata_at, record_length, stored_crc}
use Rattle.format.specs.Head.{head_number, lengths_ok}

-- document 01, Layouts: "Ids rise strictly"
unfoldable pub rises : List ℕ → ℕ → Bool
rises m zero = true
rises m (suc r) = ltb (id_at m r) (id_at m (suc r))

-- document 01, What each place turns away, 21: "an entry breaks the rising-id, segment, metadata or record-end rule"; readings R6
unfoldable pub entry_ok : List ℕ → ℕ → Bool
entry_ok m r =
    ltb (segment_at m r) (segments_of m) && rises m r && leb (metadata_at m r) max_metadata
    && leb (offset_at m r + record_length m r + 4) (length_of m (segment_at m r))

-- the first row whose entry breaks a rule, or the row count; and the first from a given row on
abbrev pub bad_entry : List ℕ → ℕ
bad_entry m = first_bad (entry_ok m) (rows_of m)

abbrev pub bad_entry_from : List ℕ → ℕ → ℕ
bad_entry_from m first = next_bad (entry_ok m) (rows_of m) first

-- the first row from a given one on whose id is not below this one, or the row count: where ids that rise are looked up
abbrev pub row_from : List ℕ → ℕ → ℕ → ℕ
row_from m first id = next_bad (λ r. ltb (id_at m r) id) (rows_of m) first

-- document 01, table, 1: "segment or row rule"
unfoldable pub rows_ok : List ℕ → Bool
rows_ok m = lengths_ok m && eqb (bad_entry m) (rows_of m)

unfoldable pub crc_ok : List ℕ → ℕ → Bool
crc_ok m expected = ends_in_crc m && eqb (stored_crc m) expected

-- `scratch` is the length of the scratch slice
unfoldable pub plan_number : List ℕ → ℕ → ℕ → ℕ
plan_number m expected scratch =
    or_else (head_number m)
    (unless (rows_ok m) 1
    (unless (crc_ok m expected) 3
    (unless (leb (rows_of m) scratch) 11 0)))
