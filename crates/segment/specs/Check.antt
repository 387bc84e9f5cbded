-- The segment check (document 01, What each place turns away: "Segments go by number: length of the whole slice first, then each segment's
-- records by offset (5), then its 6"; places: "the row number for .. 5 at a record", "the segment number for 6, otherwise 0").
use Rattle.std.specs.Prelude.{Bool, cond, ◌&&◌, List, ℕ, ◌+◌, ◌-◌, eqb, length, get_or, take, drop}
use Rattle.le.specs.Le.{le_at}
use Rattle.crc32.specs.Crc.{crc32}
use Rattle.config.specs.Refusal.{Refusal, none, refused, refused_or}
use Rattle.format.specs.Fields.{segments_of, length_of, crc_of}
use Rattle.format.specs.Order.{first_bad, first_refusal}
use Rattle.manifest.specs.Tiling.{in_segment}
use Rattle.manifest.specs.Check.{Checked, manifest_number, checked_by}
use Rattle.segment.specs.Record.{start_of, record_ok}

-- the first of these rows, by its place among them, whose record fails; their count where none does
abbrev pub bad_record : List ℕ → List ℕ → List ℕ → ℕ
bad_record m s rows = first_bad (λ i. record_ok m s (get_or rows i 0)) (length rows)

-- "segment CRC-32 wrong, or not the manifest's": of all but the segment's last 4 bytes, which hold it
abbrev pub inside_of : List ℕ → List ℕ → ℕ → List ℕ
inside_of m s n = take (length_of m n - 4) (drop (start_of m n) s)

unfoldable pub segment_crc_ok : List ℕ → List ℕ → ℕ → Bool
segment_crc_ok m s n = eqb (crc32 (inside_of m s n)) (le_at 4 s (start_of m n + (length_of m n - 4))) && eqb (crc32 (inside_of m s n)) (crc_of m n)

-- a test, and the number and place of its refusal, before the rest
abbrev pub unless_at : Bool → ℕ → ℕ → Refusal → Refusal
unless_at ok number place rest = cond ok rest (refused number place)

-- the rows of segment n by offset, then its CRC-32
unfoldable pub segment_records_refusal : List ℕ → List ℕ → ℕ → List ℕ → Refusal
segment_records_refusal m s n rows =
    let bad = bad_record m s rows in
    unless_at (eqb bad (length rows)) 5 (get_or rows bad 0)
    (unless_at (segment_crc_ok m s n) 6 n none)

abbrev pub segment_refusal : List ℕ → List ℕ → ℕ → Refusal
segment_refusal m s n = segment_records_refusal m s n (in_segment m n)

-- the first segment that is refused
abbrev pub in_order : List ℕ → List ℕ → Refusal
in_order m s = first_refusal (segment_refusal m s) (segments_of m)

unfoldable pub segments_refusal : List ℕ → List ℕ → Refusal
segments_refusal m s = cond (eqb (length s) (start_of m (segments_of m))) (in_order m s) (refused 5 0)

-- the manifest is tested anew first (readings R12)
unfoldable pub library_refusal : List ℕ → ℕ → ℕ → List ℕ → Refusal
library_refusal m expected scratch s = refused_or (manifest_number m expected scratch) (segments_refusal m s)

abbrev pub checked_library : List ℕ → ℕ → ℕ → List ℕ → Checked
checked_library m expected scratch s = checked_by m (library_refusal m expected scratch s)
