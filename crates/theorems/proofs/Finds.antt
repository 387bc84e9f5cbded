-- Demand 3, (5): none of the numbers from 16 to 24 occurs.
use mathlib.Core.Path.{◌≡◌, ap, ◌∙◌}
use mathlib.Core.Bool.{true}
use mathlib.Core.List.{List}
use Prim.Native.Nat.{ℕ, ◌+◌, ◌<◌, min}
use lib.Dec.{leb, eqb}
use lib.IntN.{ℤ}
use lib.ListN.{length, get_or}
use lib.Ieee.{Float}
use lib.Ieee.Bits.{is_true}
use lib.Ieee.Scale.{finite}
use borrow.Author.Tests.{eq-eqb, le-leb}
use Rattle.le.proofs.Chain.{by}
use Rattle.rank.specs.Sort.{◌∈◌, sort}
use Rattle.rank.proofs.Members.{mem-get_or}
use Rattle.rank.proofs.Sort.{from-sort}
use Rattle.config.specs.Refusal.{Refusal, none}
use Rattle.config.proofs.Refusals.{goes_on}
use Rattle.config.proofs.Coordinates.{floats_fit}
use Rattle.quantization.proofs.Encoded.{base, base-table}
use Rattle.format.specs.Fields.{dimensions_of, rows_of, metric_at}
use Rattle.format.specs.Head.{head_number, head_at}
use Rattle.format.specs.Same.{is_same_head}
use Rattle.format.specs.declared.Head.{Head}
use Rattle.format.proofs.First.{all_pass}
use Rattle.format.proofs.Heads.{bounds}
use Rattle.format.proofs.Same.{fields_refl}
use Rattle.format.proofs.Refusals.{all_none}
use Rattle.entries.specs.Plan.{entry_ok, bad_entry}
use Rattle.entries.proofs.Entries.{lengths_of, entry_keeps}
use Rattle.segment.specs.Record.{record_at, vector_of}
use Rattle.segment.proofs.LibraryLaws.{Accepted as Library, library_accepted}
use Rattle.segment.proofs.RecordLaws.{good}
use Rattle.math.proofs.Distances.{original_in}
use Rattle.row.proofs.Finite.{encoded-none}
use Rattle.quantized_cache.specs.declared.CacheState.{CacheState}
use Rattle.resident.specs.declared.ResidentState.{ResidentState}
use Rattle.search_spec.specs.Lent.{Rows, Call, handed}
use Rattle.search_spec.specs.Tests.{room_of, room_ok, open_by, query_by, front_by, front_number}
use Rattle.search_spec.specs.Lists.{is_eligible, eligible_rows, encoded, original_at, candidate_rows}
use Rattle.search_spec.specs.Scan.{row_refusal, rows_refusal, scan_refusal, record_refusal, records_refusal}
use Rattle.search_spec.specs.Outcome.{late_refusal, outcome_by, searched, agreed}
use Rattle.search_spec.specs.Kept.{cached_rows, resident_rows, cached, resident, agreement_cached, agreement_resident}
use Rattle.search_spec.proofs.Keys.{in_library, in_eligible}
use Rattle.theorems.specs.Words.{Accepted, LeftByPreparing, Opens, LeftByBuilding, Answerable}
use Rattle.theorems.proofs.Own.{Own, cached-head, cached_own, built-head, built_own}

module _ (v : Rows) (c : Call) (a : Accepted c.manifest c.segments) (q : Answerable c) (o : Own c.manifest c.segments v) where
  abbrev m : List ℕ
  m = c.manifest

  abbrev s : List ℕ
  s = c.segments

  library : Library m a.expected a.scratch s
  library = library_accepted m a.expected a.scratch s a.passes

  -- 19, 21 for the head, 16, 17, 18, 20
  room : room_ok (rows_of m) c.k c.limit (handed c.wanted) (room_of c.answers c.work) ≡ true
  room =
      let k = min c.k (rows_of m) in
      let l = min c.limit (rows_of m) in
      rw (
        le-leb k (length c.answers.ids) q.answer-ids,
        le-leb k (length c.answers.distances) q.answer-distances,
        le-leb k (length c.answers.rows) q.answer-rows,
        le-leb k (length c.answers.starts) q.answer-starts,
        le-leb k (length c.answers.lengths) q.answer-lengths,
        le-leb l (length c.work.keys) q.candidate_keys,
        le-leb l (length c.work.rows) q.candidate_row_slice,
        le-leb (handed c.wanted) (length c.work.ids) q.id_slice,
      )

  same_head : is_same_head m (head_at m) ≡ true
  unfolding is_same_head
  same_head = rw (eq-eqb (head_number m) 0 library.passed.head, fields_refl (head_at m), lengths_of m library.passed.rows)

  front-none : front_number (head_at m) c ≡ 0
  unfolding front_by open_by query_by
  front-none =
      rw (
        le-leb (handed c.wanted) 1000000 q.ids,
        same_head,
        q.query,
        le-leb c.k 10000 q.most,
        le-leb c.k c.limit q.low,
        le-leb c.limit 65536 q.high,
        room,
      )

  -- 21 for the entries
  entries_none : bad_entry m ≡ rows_of m
  entries_none = all_pass (entry_ok m) (rows_of m) (λ r l. entry_keeps m r library.passed.rows l)

  -- 21 and 22 for the rows
  abbrev row : ℕ → Refusal
  row = row_refusal v.encoding.levels m (is_eligible c.wanted c.allowed m) v.at (encoded v.encoding c.query)

  row-none : (r : ℕ) → r < rows_of m → row r ≡ none
  unfolding row_refusal encoded
  row-none r l =
      rw (o.at r l, o.encoding)
      (encoded-none base base-table (metric_at m) (dimensions_of m) (bounds m library.passed.head).high (is_eligible c.wanted c.allowed m r) r (vector_of m s r) c.query
      (floats_fit (dimensions_of m) s (record_at m r + 12)) q.singles (good m s r (library.records r l)).vector q.query)

  scan_none : scan_refusal v c ≡ none
  unfolding scan_refusal rows_refusal
  scan_none = rw (all_none row (rows_of m) (λ r l. ap (λ (x : Refusal). x.number) (row-none r l)), o.length_ok)

  -- 23 and 24
  record_none : (r : ℕ) → r < rows_of m → record_refusal m s c.query r ≡ none
  unfolding record_refusal original_at
  record_none r l =
      let ok = library.records r l in
      let b = bounds m library.passed.head in
      let d = original_in (metric_at m) (dimensions_of m) c.query (vector_of m s r) q.query (good m s r ok).vector q.singles (floats_fit (dimensions_of m) s (record_at m r + 12)) b.low b.high in
      rw (ok, is_true (finite (original_at m s c.query r)) d.fine)

  records-none : (looked : List ℕ) → ((r : ℕ) → r ∈ looked → r < rows_of m) → records_refusal m s c.query looked ≡ none
  unfolding records_refusal
  records-none looked h =
      let rs = sort leb looked in
      all_none (λ i. record_refusal m s c.query (get_or rs i 0)) (length rs)
      (λ i l. ap (λ (x : Refusal). x.number) (record_none (get_or rs i 0) (h (get_or rs i 0) (from-sort leb (get_or rs i 0) looked (mem-get_or rs i 0 l)))))

  late-none : (looked : List ℕ) → ((r : ℕ) → r ∈ looked → r < rows_of m) → late_refusal v c looked ≡ none
  unfolding late_refusal
  late-none looked h =
      rw (eq-eqb (bad_entry m) (rows_of m) entries_none) (by (eqb c.k 0) (λ e. rw e) (λ e. rw (e, scan_none, records-none looked h)))

  both_none : (head : Head) → head ≡ head_at m → ((searched head v c).refusal ≡ none) × ((agreed head v c).refusal ≡ none)
  unfolding searched agreed outcome_by
  both_none head e =
      let f : front_number head c ≡ 0 = ap (λ (x : Head). front_number x c) e ∙ front-none in (
        goes_on (front_number head c) (late_refusal v c (candidate_rows v c)) f ∙ late-none (candidate_rows v c) (λ r i. in_library c r (in_eligible v c r i)),
        goes_on (front_number head c) (late_refusal v c (eligible_rows c)) f ∙ late-none (eligible_rows c) (in_library c),
      )

pub finds_cached : (c : Call) (state : CacheState) (cache : List ℕ) → Accepted c.manifest c.segments → Answerable c
    → LeftByPreparing c.manifest c.segments cache → Opens c.manifest cache state
    → ((cached state cache c).refusal ≡ none) × ((agreement_cached state cache c).refusal ≡ none)
finds_cached c state cache a q p o =
    let m = c.manifest in
    let s = c.segments in
    both_none (cached_rows m state cache) c a q (cached_own m s cache state p o) state.head (cached-head m s cache state p o)

pub finds_resident : (c : Call) (state : ResidentState) (codes : List ℤ) (scales : List Float) (norms : List ℤ) → Accepted c.manifest c.segments
    → Answerable c → LeftByBuilding c.manifest c.segments state codes scales norms
    → ((resident state codes scales norms c).refusal ≡ none) × ((agreement_resident state codes scales norms c).refusal ≡ none)
finds_resident c state codes scales norms a q b =
    let m = c.manifest in
    let s = c.segments in
    both_none (resident_rows m state codes scales norms) c a q (built_own m s state codes scales norms b) state.head (built-head m s state codes scales norms b)
