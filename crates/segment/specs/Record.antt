-- A record (document 01, Layouts: "Segments lie end to end in one slice. A record is id, metadata length, f32 coordinates, UTF-8 metadata
-- (at most 16,384 bytes)").
use Rattle.std.specs.Prelude.{Bool, ◌&&◌, List, ◌++◌, ℕ, zero, suc, ◌+◌, ◌-◌, ◌*◌, leb, eqb, length, take, drop, replicate, Float}
use Rattle.le.specs.Le.{le_at}
use Rattle.crc32.specs.Tables.{tab}
use Rattle.utf8.specs.Utf8.{valid}
use Rattle.config.specs.Vector.{valid_vector, floats_at}
use Rattle.config.specs.declared.Metric.{Metric}
use Rattle.format.specs.Fields.{segments_of, dimensions_of, metric_at, length_of, id_at, segment_at, offset_at, metadata_at, record_length}

-- where segment n begins in the slice
unfoldable pub start_of : List ℕ → ℕ → ℕ
start_of m zero = 0
start_of m (suc n) = start_of m n + length_of m n

-- where the record of row r begins
unfoldable pub record_at : List ℕ → ℕ → ℕ
record_at m r = start_of m (segment_at m r) + offset_at m r

-- its coordinates
abbrev pub vector_of : List ℕ → List ℕ → ℕ → List Float
vector_of m s r = floats_at (dimensions_of m) s (record_at m r + 12)

-- its metadata, and where they begin (readings R25: counted from the first byte of the slice)
abbrev pub metadata_start : List ℕ → ℕ → ℕ
metadata_start m r = record_at m r + 12 + 4 * dimensions_of m

abbrev pub metadata_bytes : List ℕ → List ℕ → ℕ → List ℕ
metadata_bytes m s r = take (metadata_at m r) (drop (metadata_start m r) s)

-- document 01, table: "5: .. id, metadata length, coordinates (non-finite, or all zero under cosine) or UTF-8 wrong", of the record at a place
unfoldable pub parts_ok : Metric → ℕ → ℕ → ℕ → List ℕ → ℕ → Bool
parts_ok metric dimensions id metadata s at =
    eqb (le_at 8 s at) id && eqb (le_at 4 s (at + 8)) metadata && valid_vector metric dimensions (floats_at dimensions s (at + 12))
    && valid (take metadata (drop (at + 12 + 4 * dimensions) s))

-- "23, and 5 when preparing or building: the record passes the end of the segments or fails a record test of 5"
unfoldable pub record_ok : List ℕ → List ℕ → ℕ → Bool
record_ok m s r =
    leb (record_at m r + record_length m r) (length s) && parts_ok (metric_at m) (dimensions_of m) (id_at m r) (metadata_at m r) s (record_at m r)

-- the starts of the first n segments, the end of the last of them, and zeros: 1025 numbers
unfoldable pub starts_to : List ℕ → ℕ → List ℕ
starts_to m n = tab (start_of m) 0 (n + 1) ++ replicate (1024 - n) 0

-- of all segments
abbrev pub starts_of : List ℕ → List ℕ
starts_of m = starts_to m (segments_of m)
