-- Between functions: what they promise one another. No contract of an entry and no theorem rests on this file.
-- How far a scan has gone at once, over rows that are seen as views: of the rows it has gone over only the last may change the candidates.
use Rattle.std.specs.Prelude.{◌≡◌, Bool, true, ℕ, ◌≤◌, ◌<◌, Option, Some, None}
use Rattle.config.specs.declared.Metric.{Metric}
use Rattle.codes.specs.Codes.{RowSums}
use Rattle.quantization.specs.View.{View}
use Rattle.row.specs.Answer.{row_answer}
use Rattle.scan.specs.Far.{Over, Entered}
use Rattle.scan.specs.declared.Ahead.{Ahead}
use Rattle.scan.specs.declared.Next.{Next}

-- where it is, or the end where there is none
abbrev pub row_of : ℕ → Option Ahead → ℕ
row_of to None = to
row_of to (Some a) = a.row

module _ (levels : ℕ) (metric : Metric) (view : ℕ → View) (query : View) where
  -- the rows from row on, all eligible, are turned away up to r's, or up to `to` where there is none; the sums are its own
  pub record AheadIs (row to top : ℕ) (r : Option Ahead) : Type 0 where
    pub from : row ≤ row_of to r
    pub until : row_of to r ≤ to
    pub over : (i : ℕ) → row ≤ i → i < row_of to r → Over top (row_answer levels metric true i (view i) query)
    pub here : {a : Ahead} → r ≡ Some a → (a.row < to) × RowSums levels (view a.row).codes query.codes a.sums

  -- the rows from row on are turned away up to r's, of which the answer is said; only eligible rows go by
  pub record NextIs (eligible : Bool) (row to top : ℕ) (r : Next) : Type 0 where
    pub from : row ≤ r.row
    pub until : r.row < to
    pub wanted : row < r.row → eligible ≡ true
    pub over : (i : ℕ) → row ≤ i → i < r.row → Over top (row_answer levels metric eligible i (view i) query)
    pub said : Entered top (row_answer levels metric eligible r.row (view r.row) query) r.answer
