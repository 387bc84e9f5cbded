-- The encoder's own row of each record, over the levels and the midpoints (document 01, The arithmetic, Encoder; The report: "Written and
-- built by one encoder: from the records lent").
use Rattle.std.specs.Prelude.{List, ℕ, Float}
use Rattle.le.specs.Le.{joined}
use Rattle.config.specs.Refusal.{Refusal, none, refused_at}
use Rattle.quantization.specs.View.{View, row_bytes}
use Rattle.quantization.specs.Encoder.{encode}
use Rattle.format.specs.Order.{first_bad}
use Rattle.format.specs.Fields.{rows_of}
use Rattle.segment.specs.Record.{vector_of, record_ok}

abbrev pub row_of : ℕ → List Float → List ℕ → List ℕ → ℕ → View
row_of levels mids m s r = encode levels mids (vector_of m s r)

-- the first n rows as they stand in a cache (Layouts, Cache: "identity, rows, CRC-32")
abbrev pub rows_bytes : ℕ → List Float → List ℕ → List ℕ → ℕ → List ℕ
rows_bytes levels mids m s n = joined (λ r. row_bytes (row_of levels mids m s r)) n

-- the lowest row whose record fails, or the row count
abbrev pub lowest_bad : List ℕ → List ℕ → ℕ
lowest_bad m s = first_bad (record_ok m s) (rows_of m)

-- "5 for the lowest bad row" (What each place turns away, preparing and building)
unfoldable pub bad_record_refusal : List ℕ → List ℕ → Refusal
bad_record_refusal m s = refused_at 5 (lowest_bad m s) (rows_of m) none
