-- The tests of rows and records (document 01, What each place turns away: "Else 21 for the cache or resident length, row by row 21 (every
-- row) then 22 (eligible rows only), and last, by rising row of the candidates, 23 then 24"). Places: the row, and 0 for a length.
use Rattle.std.specs.Prelude.{Bool, cond, List, ℕ, leb, length, get_or, Float}
use Rattle.std.specs.Float.Ieee.Scale.{finite}
use Rattle.rank.specs.Sort.{sort}
use Rattle.config.specs.Refusal.{Refusal, none, refused}
use Rattle.quantization.specs.View.{View}
use Rattle.format.specs.Order.{first_refusal}
use Rattle.format.specs.Fields.{rows_of, metric_at}
use Rattle.segment.specs.Record.{record_ok}
use Rattle.row.specs.Answer.{refusal_of, row_answer}
use Rattle.search_spec.specs.Lent.{Rows, Call}
use Rattle.search_spec.specs.Lists.{is_eligible, encoded, original_at}

-- row r: 21 where it "fails the row test", then, if it is eligible, 22, "approximate distance not finite"; `eligible` says which rows are
unfoldable pub row_refusal : ℕ → List ℕ → (ℕ → Bool) → (ℕ → View) → View → ℕ → Refusal
row_refusal levels m eligible view query r = refusal_of (row_answer levels (metric_at m) (eligible r) r (view r) query)

-- row by row
unfoldable pub rows_refusal : ℕ → List ℕ → (ℕ → Bool) → (ℕ → View) → View → Refusal
rows_refusal levels m eligible view query = first_refusal (row_refusal levels m eligible view query) (rows_of m)

-- the record of row r: "23, ..: the record passes the end of the segments or fails a record test of 5", then "24: original distance not finite"
unfoldable pub record_refusal : List ℕ → List ℕ → List Float → ℕ → Refusal
record_refusal m s query r = cond (record_ok m s r) (cond (finite (original_at m s query r)) none (refused 24 r)) (refused 23 r)

-- "by rising row" of some rows
unfoldable pub records_refusal : List ℕ → List ℕ → List Float → List ℕ → Refusal
records_refusal m s query looked = let rs = sort leb looked in first_refusal (λ i. record_refusal m s query (get_or rs i 0)) (length rs)

-- ---- of a call: the length, then row by row
unfoldable pub scan_refusal : Rows → Call → Refusal
scan_refusal rows c =
    let e = rows.encoding in
    cond rows.length_ok
    (rows_refusal e.levels c.manifest (is_eligible c.wanted c.allowed c.manifest) rows.at (encoded e c.query))
    (refused 21 0)
