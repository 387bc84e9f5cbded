-- Eligible rows, candidates and list (document 01, The report), over the parts of a call: a manifest m, segments s, rows as they are seen, a
-- query.
use Rattle.std.specs.Prelude.{Bool, ◌&&◌, List, ℕ, Float}
use Rattle.rank.specs.Rows.{passing}
use Rattle.rank.specs.Order.{by_distance}
use Rattle.rank.specs.Sort.{least}
use Rattle.quantization.specs.View.{View}
use Rattle.quantization.specs.Encoder.{encode}
use Rattle.math.specs.Distance.{original}
use Rattle.row.specs.Distance.{approximate}
use Rattle.format.specs.Fields.{rows_of, metric_at, id_at}
use Rattle.segment.specs.Record.{vector_of}
use Rattle.search_spec.specs.Lent.{Encoding, Rows, Wanted, Call, wants}

-- "A stroke is a row's record, eligible by its id": an id that is allowed, and wanted
unfoldable pub is_eligible : Wanted → (ℕ → Bool) → List ℕ → ℕ → Bool
is_eligible wanted allowed m r = allowed (id_at m r) && wants wanted (id_at m r)

-- "the library's rows whose id is among them, each once", rising
unfoldable pub eligible : Wanted → (ℕ → Bool) → List ℕ → List ℕ
eligible wanted allowed m = passing (is_eligible wanted allowed m) (rows_of m)

-- the query's own row (The arithmetic, Encoder)
unfoldable pub encoded : Encoding → List Float → View
encoded e query = encode e.levels e.mids query

-- The arithmetic, Approximate: of row r, and the query's row
unfoldable pub approximate_at : List ℕ → (ℕ → View) → View → ℕ → Float
approximate_at m view query r = approximate (metric_at m) (view r) query

-- The arithmetic, Original: of the query, and the coordinates of the record of row r
unfoldable pub original_at : List ℕ → List ℕ → List Float → ℕ → Float
original_at m s query r = original (metric_at m) query (vector_of m s r)

-- approximate and original order: "IEEE 754 totalOrder on distance, then id"; true where a row is the other or comes before it
abbrev pub by_approximate : List ℕ → (ℕ → View) → View → ℕ → ℕ → Bool
by_approximate m view query = by_distance (approximate_at m view query) (id_at m)

abbrev pub by_original : List ℕ → List ℕ → List Float → ℕ → ℕ → Bool
by_original m s query = by_distance (original_at m s query) (id_at m)

-- ---- of a call

unfoldable pub eligible_rows : Call → List ℕ
eligible_rows c = eligible c.wanted c.allowed c.manifest

-- "Candidates are the min(limit, eligible) least by approximate order"
unfoldable pub candidate_rows : Rows → Call → List ℕ
candidate_rows rows c = least (by_approximate c.manifest rows.at (encoded rows.encoding c.query)) c.limit (eligible_rows c)

-- "the list is the min(k, eligible) least of those by original order"
unfoldable pub listed_rows : Rows → Call → List ℕ
listed_rows rows c = least (by_original c.manifest c.segments c.query) c.k (candidate_rows rows c)

-- "the list over all eligible records"
unfoldable pub exact_rows : Call → List ℕ
exact_rows c = least (by_original c.manifest c.segments c.query) c.k (eligible_rows c)
