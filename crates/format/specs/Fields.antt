-- The manifest's fields (document 01, Layouts, Manifest: "`VECGEN01`; generation and sequence u64; dimensions, m, ef u32; seed u64;
-- metric byte (0 squared L2, 1 cosine, 2 inner product); model length u32 (1 to 512) and UTF-8 model; segment count u32 (at most 1024);
-- row count u64 (at most 1,000,000); per segment length u64 and CRC u32; per row id u64, segment, offset, metadata length u32; CRC-32 of
-- all before it").
use Rattle.std.specs.Prelude.{List, [], ◌∷◌, ℕ, ◌+◌, ◌-◌, ◌*◌, length, get_or, take, drop, Result, Ok, Err}
use Rattle.le.specs.Le.{le_at}
use Rattle.config.specs.Metric.{metric_of}
use Rattle.config.specs.declared.Metric.{Metric}
use Rattle.config.specs.declared.Metric.TheVariants.{SquaredL2}
use Rattle.config.specs.declared.UnknownMetric.{UnknownMetric}

-- "VECGEN01"
abbrev pub magic : List ℕ
magic = 86 ∷ 69 ∷ 67 ∷ 71 ∷ 69 ∷ 78 ∷ 48 ∷ 49 ∷ []

unfoldable pub generation_of : List ℕ → ℕ
generation_of m = le_at 8 m 8

unfoldable pub sequence_of : List ℕ → ℕ
sequence_of m = le_at 8 m 16

unfoldable pub dimensions_of : List ℕ → ℕ
dimensions_of m = le_at 4 m 24

unfoldable pub m_of : List ℕ → ℕ
m_of m = le_at 4 m 28

unfoldable pub ef_of : List ℕ → ℕ
ef_of m = le_at 4 m 32

unfoldable pub seed_of : List ℕ → ℕ
seed_of m = le_at 8 m 36

unfoldable pub metric_byte : List ℕ → ℕ
metric_byte m = get_or m 44 0

-- the metric of a byte; a byte that names none is refused by `kind_ok`, and SquaredL2 only makes the function total
abbrev pub metric_in : Result Metric UnknownMetric → Metric
metric_in (Ok metric) = metric
metric_in (Err unknown) = SquaredL2

unfoldable pub metric_at : List ℕ → Metric
metric_at m = metric_in (metric_of (metric_byte m))

unfoldable pub length_of_model : List ℕ → ℕ
length_of_model m = le_at 4 m 45

unfoldable pub model_of : List ℕ → List ℕ
model_of m = take (length_of_model m) (drop 49 m)

unfoldable pub segments_of : List ℕ → ℕ
segments_of m = le_at 4 m (49 + length_of_model m)

unfoldable pub rows_of : List ℕ → ℕ
rows_of m = le_at 8 m (53 + length_of_model m)

-- where the segment table and the entries of the rows begin
unfoldable pub table_at : List ℕ → ℕ
table_at m = 61 + length_of_model m

unfoldable pub entries_at : List ℕ → ℕ
entries_at m = table_at m + 12 * segments_of m

-- segment n
unfoldable pub length_of : List ℕ → ℕ → ℕ
length_of m n = le_at 8 m (table_at m + 12 * n)

unfoldable pub crc_of : List ℕ → ℕ → ℕ
crc_of m n = le_at 4 m (table_at m + 12 * n + 8)

-- the entry of row r
unfoldable pub id_at : List ℕ → ℕ → ℕ
id_at m r = le_at 8 m (entries_at m + 20 * r)

unfoldable pub segment_at : List ℕ → ℕ → ℕ
segment_at m r = le_at 4 m (entries_at m + 20 * r + 8)

unfoldable pub offset_at : List ℕ → ℕ → ℕ
offset_at m r = le_at 4 m (entries_at m + 20 * r + 12)

unfoldable pub metadata_at : List ℕ → ℕ → ℕ
metadata_at m r = le_at 4 m (entries_at m + 20 * r + 16)

-- document 01, Layouts: "A record is id, metadata length, f32 coordinates, UTF-8 metadata"
unfoldable pub record_length : List ℕ → ℕ → ℕ
record_length m r = 12 + 4 * dimensions_of m + metadata_at m r

-- the manifest's own CRC-32
unfoldable pub stored_crc : List ℕ → ℕ
stored_crc m = le_at 4 m (length m - 4)
