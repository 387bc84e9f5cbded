-- What the tests after 20 say where they pass, and with it the candidates, the list and the exact list by keys: of the approximate distance, and
-- of the original one. The candidates of slices of min(limit, rows) elements are those of the limit.
use mathlib.Core.Path.{◌≡◌, sym, ◌∙◌}
use mathlib.Core.Bool.{Bool, true, false, cond}
use mathlib.Core.List.{List}
use Prim.Native.Nat.{ℕ, ◌+◌, ◌<◌, min}
use lib.Dec.{T, leb, eqb}
use lib.ListN.{length, get_or}
use lib.Ieee.{Float, nan, inf, fin}
use lib.Ieee.Scale.{finite}
use borrow.Author.Tests.{eqb-true}
use Rattle.float.specs.Order.{keyed}
use Rattle.le.proofs.Chain.{by}
use Rattle.float.proofs.BitLaws.{finite_number}
use Rattle.rank.specs.Sort.{◌∈◌, sort, least}
use Rattle.rank.specs.Rows.{passing}
use Rattle.rank.specs.Limit.{by_key}
use Rattle.rank.proofs.Members.{all-at}
use Rattle.rank.proofs.Sort.{to_sort}
use Rattle.rank.proofs.Least.{from-least, enough}
use Rattle.rank.proofs.Rows.{passing_pass, count_most}
use Rattle.rank.proofs.Order.{Rising, Measured, least-order}
use Rattle.config.specs.Refusal.{none, refused, then_refusal}
use Rattle.config.proofs.Refusals.{not_zero, held_number, then_none, none_fails}
use Rattle.config.proofs.Coordinates.{floats_fit}
use Rattle.quantization.specs.View.{View, valid_row}
use Rattle.format.specs.Fields.{dimensions_of, rows_of, metric_at, id_at}
use Rattle.format.specs.Head.{head_number}
use Rattle.format.proofs.Heads.{bounds}
use Rattle.format.proofs.Refusals.{each_none}
use Rattle.entries.specs.Plan.{bad_entry, rows_ok}
use Rattle.entries.proofs.Entries.{ids_rise}
use Rattle.segment.specs.Record.{record_at, vector_of, record_ok}
use Rattle.segment.proofs.RecordLaws.{good}
use Rattle.math.proofs.Distances.{original_in}
use Rattle.row.specs.Distance.{approximate}
use Rattle.row.specs.Answer.{refusal_of, measured, answer, row_answer}
use Rattle.row.proofs.Finite.{distance-fits}
use Rattle.search_spec.specs.Lent.{Rows, Call, Singles}
use Rattle.search_spec.specs.Tests.{query_ok}
use Rattle.search_spec.specs.Lists.{is_eligible, eligible, eligible_rows, encoded, approximate_at, original_at, by_approximate, by_original, candidate_rows, listed_rows, exact_rows}
use Rattle.search_spec.specs.Scan.{row_refusal, rows_refusal, scan_refusal, record_refusal, records_refusal}
use Rattle.search_spec.specs.Outcome.{late_refusal}

-- the tests after 20, passed
pub record Late (rows : Rows) (c : Call) (looked : List ℕ) : Type 0 where
  pub entries : bad_entry c.manifest ≡ rows_of c.manifest
  pub scan : (c.k ≡ 0 → ⊥) → (scan_refusal rows c).number ≡ 0
  pub records : (c.k ≡ 0 → ⊥) → (records_refusal c.manifest c.segments c.query looked).number ≡ 0

pub late : (rows : Rows) (c : Call) (looked : List ℕ) → (late_refusal rows c looked).number ≡ 0 → Late rows c looked
unfolding late_refusal
late rows c looked h =
    let m = c.manifest in
    let scan = scan_refusal rows c in
    let records = records_refusal m c.segments c.query looked in
    let e = none_fails 21 (bad_entry m) (rows_of m) (cond (eqb c.k 0) none (then_refusal scan records)) not_zero h in
    let more : (c.k ≡ 0 → ⊥) → (then_refusal scan records).number ≡ 0 = λ n. by (eqb c.k 0) (λ t. absurd (n (eqb-true c.k 0 t))) (λ t. rw t at e.1) in
    record { entries = e.0; scan = λ n. (then_none scan records (more n)).0; records = λ n. (then_none scan records (more n)).1 }

-- ---- rows
answer_finite : (valid : Bool) (place : ℕ) (x : Float) → (refusal_of (answer valid true place x)).number ≡ 0 → T (finite x)
unfolding answer measured
answer_finite false place x h = absurd (not_zero h)
answer_finite true place nan h = absurd (not_zero h)
answer_finite true place (inf s) h = absurd (not_zero h)
answer_finite true place (fin s m e) h = tt

module _ (levels : ℕ) (m : List ℕ) (ok : ℕ → Bool) (view : ℕ → View) (query : View) (h : (rows_refusal levels m ok view query).number ≡ 0) where
  -- an eligible row has an approximate distance
  pub scanned : (r : ℕ) → r ∈ passing ok (rows_of m) → Measured (approximate_at m view query) (id_at m) r
  unfolding rows_refusal row_refusal row_answer approximate_at
  scanned r i =
      let p = passing_pass ok (rows_of m) r i in
      let n = each_none (row_refusal levels m ok view query) (rows_of m) h r p.0 in
      let x = approximate (metric_at m) (view r) query in
      record {
        fit = distance-fits (metric_at m) (view r) query;
        number = finite_number x (answer_finite (valid_row levels (metric_at m) (view r)) r x (rw p.1 at n));
      }

  -- so the least of them by (distance, id) are those by (key, row)
  pub nearest_by_key : rows_ok m ≡ true → (limit : ℕ)
      → least (by_approximate m view query) limit (passing ok (rows_of m))
      ≡ least (by_key (λ r. keyed (approximate_at m view query r))) (min limit (rows_of m)) (passing ok (rows_of m))
  nearest_by_key up limit =
      let d = approximate_at m view query in
      let rows = passing ok (rows_of m) in
      sym (least-order d (id_at m) rows scanned (λ r t i j l. ids_rise m r t up l (passing_pass ok (rows_of m) t j).0) limit)
      ∙ sym (enough (by_key (λ r. keyed (d r))) limit (rows_of m) rows (count_most ok (rows_of m)))

-- ---- records
module _ (m s : List ℕ) (query : List Float) where
  -- each of the rows whose records were looked at
  pub records_each : (looked : List ℕ) → (records_refusal m s query looked).number ≡ 0 → (r : ℕ) → r ∈ looked → (record_refusal m s query r).number ≡ 0
  unfolding records_refusal
  records_each looked h r i =
      let rs = sort leb looked in
      all-at (λ x. (record_refusal m s query x).number ≡ 0) rs 0 (each_none (λ j. record_refusal m s query (get_or rs j 0)) (length rs) h) r (to_sort leb r looked i)

  pub record_passes : (r : ℕ) → (record_refusal m s query r).number ≡ 0 → record_ok m s r ≡ true
  unfolding record_refusal
  record_passes r h = (held_number (record_ok m s r) (cond (finite (original_at m s query r)) none (refused 24 r)) (refused 23 r) not_zero h).0

  -- head and query have passed
  module _ (e : head_number m ≡ 0) (f : Singles query) (q : query_ok m query ≡ true) where
    -- a record that passes its test has an original distance
    pub recorded : (r : ℕ) → record_ok m s r ≡ true → Measured (original_at m s query) (id_at m) r
    unfolding original_at
    recorded r ok =
        let b = bounds m e in
        let o = original_in (metric_at m) (dimensions_of m) query (vector_of m s r) q (good m s r ok).vector f (floats_fit (dimensions_of m) s (record_at m r + 12)) b.low b.high in
        record { fit = o.fit; number = finite_number _ o.fine }

    -- so the k least of rows whose records have passed, by (distance, id), are those by (key, row)
    pub least_by_key : (looked : List ℕ) → Rising (id_at m) looked → (records_refusal m s query looked).number ≡ 0 → (k : ℕ)
        → least (by_original m s query) k looked ≡ least (by_key (λ r. keyed (original_at m s query r))) k looked
    least_by_key looked up h k = sym (least-order (original_at m s query) (id_at m) looked (λ r i. recorded r (record_passes r (records_each looked h r i))) up k)

-- ---- of a call

-- the eligible rows are the library's
pub in_library : (c : Call) (r : ℕ) → r ∈ eligible_rows c → r < rows_of c.manifest
unfolding eligible_rows eligible
in_library c r h = (passing_pass (is_eligible c.wanted c.allowed c.manifest) (rows_of c.manifest) r h).0

module _ (rows : Rows) (c : Call) where
  pub in_eligible : (r : ℕ) → r ∈ candidate_rows rows c → r ∈ eligible_rows c
  unfolding candidate_rows
  in_eligible r = from-least (by_approximate c.manifest rows.at (encoded rows.encoding c.query)) r c.limit (eligible_rows c)

  -- entries have passed
  module _ (up : rows_ok c.manifest ≡ true) where
    rises : (looked : List ℕ) → ((r : ℕ) → r ∈ looked → r ∈ eligible_rows c) → Rising (id_at c.manifest) looked
    rises looked h r t i j l = ids_rise c.manifest r t up l (in_library c t (h t j))

    pub candidates_by_key : (scan_refusal rows c).number ≡ 0
        → candidate_rows rows c
        ≡ least (by_key (λ r. keyed (approximate_at c.manifest rows.at (encoded rows.encoding c.query) r))) (min c.limit (rows_of c.manifest)) (eligible_rows c)
    unfolding candidate_rows eligible_rows eligible scan_refusal
    candidates_by_key h =
        let m = c.manifest in
        let ok = is_eligible c.wanted c.allowed m in
        let q = encoded rows.encoding c.query in
        let levels = rows.encoding.levels in
        nearest_by_key levels m ok rows.at q (held_number rows.length_ok (rows_refusal levels m ok rows.at q) (refused 21 0) not_zero h).1 up c.limit

    -- head and query have passed
    module _ (e : head_number c.manifest ≡ 0) (f : Singles c.query) (q : query_ok c.manifest c.query ≡ true) where
      pub list_by_key : (records_refusal c.manifest c.segments c.query (candidate_rows rows c)).number ≡ 0
          → listed_rows rows c ≡ least (by_key (λ r. keyed (original_at c.manifest c.segments c.query r))) c.k (candidate_rows rows c)
      unfolding listed_rows
      list_by_key h = least_by_key c.manifest c.segments c.query e f q (candidate_rows rows c) (rises (candidate_rows rows c) in_eligible) h c.k

      pub exact_by_key : (records_refusal c.manifest c.segments c.query (eligible_rows c)).number ≡ 0
          → exact_rows c ≡ least (by_key (λ r. keyed (original_at c.manifest c.segments c.query r))) c.k (eligible_rows c)
      unfolding exact_rows
      exact_by_key h = least_by_key c.manifest c.segments c.query e f q (eligible_rows c) (rises (eligible_rows c) (λ r i. i)) h c.k
