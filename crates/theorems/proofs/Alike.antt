-- Two kinds of rows that agree are searched alike; demand 3, (4).
use mathlib.Core.Path.{◌≡◌, sym, ap, ◌∙◌}
use mathlib.Core.List.{List}
use Prim.Native.Nat.{ℕ, ◌<◌}
use lib.IntN.{ℤ}
use lib.ListN.{length, get_or}
use lib.Ieee.{Float}
use Rattle.float.specs.Values.{plus_zero}
use Rattle.rank.specs.Sort.{◌∈◌, least}
use Rattle.rank.specs.Order.{by_distance}
use Rattle.rank.proofs.Agree.{least_agree}
use Rattle.config.specs.Refusal.{Refusal}
use Rattle.format.specs.Fields.{rows_of}
use Rattle.format.specs.declared.Head.{Head}
use Rattle.format.proofs.Refusals.{refusals_agree}
use Rattle.quantized_cache.specs.declared.CacheState.{CacheState}
use Rattle.resident.specs.declared.ResidentState.{ResidentState}
use Rattle.search_spec.specs.Lent.{Rows, Call}
use Rattle.search_spec.specs.Tests.{front_number}
use Rattle.search_spec.specs.Lists.{is_eligible, eligible_rows, encoded, approximate_at, by_approximate, by_original, candidate_rows, listed_rows}
use Rattle.search_spec.specs.Scan.{row_refusal, rows_refusal, scan_refusal}
use Rattle.search_spec.specs.Outcome.{Outcome, measured_rows, report_of, list_of, agreement_of, late_refusal, outcome_by, searched, agreed}
use Rattle.search_spec.specs.Kept.{cached_rows, resident_rows, cached, resident, agreement_cached, agreement_resident}
use Rattle.search_spec.proofs.Keys.{in_library}
use Rattle.theorems.specs.Words.{Alike, LeftByPreparing, Opens, LeftByBuilding}
use Rattle.theorems.proofs.Own.{cached-head, cached_own, built-head, built_own}

-- ---- rows that agree as far as the library goes
pub record Agree (n : ℕ) (v w : Rows) : Type 0 where
  pub encoding : v.encoding ≡ w.encoding
  pub length_ok : v.length_ok ≡ w.length_ok
  pub at : (r : ℕ) → r < n → v.at r ≡ w.at r

module _ (head : Head) (v w : Rows) (c : Call) (a : Agree (rows_of c.manifest) v w) where
  abbrev row : Rows → ℕ → Refusal
  row u = row_refusal u.encoding.levels c.manifest (is_eligible c.wanted c.allowed c.manifest) u.at (encoded u.encoding c.query)

  rows-refusal : (r : ℕ) → r < rows_of c.manifest → row v r ≡ row w r
  unfolding row_refusal
  rows-refusal r l = rw (a.encoding, a.at r l)

  scan_agrees : scan_refusal v c ≡ scan_refusal w c
  unfolding scan_refusal rows_refusal
  scan_agrees = rw (refusals_agree (row v) (row w) (rows_of c.manifest) rows-refusal, a.length_ok)

  abbrev distance : Rows → ℕ → Float
  distance u = approximate_at c.manifest u.at (encoded u.encoding c.query)

  approximate-agrees : (r : ℕ) → r ∈ eligible_rows c → distance v r ≡ distance w r
  unfolding approximate_at
  approximate-agrees r h = rw (a.encoding, a.at r (in_library c r h))

  candidates_agree : candidate_rows v c ≡ candidate_rows w c
  unfolding candidate_rows by_distance
  candidates_agree =
      least_agree (by_approximate c.manifest w.at (encoded w.encoding c.query)) (by_approximate c.manifest v.at (encoded v.encoding c.query)) c.limit (eligible_rows c)
      (λ x y i j. rw (approximate-agrees x i, approximate-agrees y j))

  pub listed_agree : listed_rows v c ≡ listed_rows w c
  unfolding listed_rows
  listed_agree = ap (least (by_original c.manifest c.segments c.query) c.k) candidates_agree

  refusal-agrees : (looked : List ℕ) → late_refusal v c looked ≡ late_refusal w c looked
  unfolding late_refusal
  refusal-agrees looked = rw scan_agrees

  outcome-agrees : (number : ℕ) (looked : List ℕ) → outcome_by number v c looked ≡ outcome_by number w c looked
  unfolding outcome_by report_of measured_rows list_of agreement_of
  outcome-agrees number looked = rw (refusal-agrees looked, candidates_agree, listed_agree)

  pub searched_agree : searched head v c ≡ searched head w c
  unfolding searched
  searched_agree = rw candidates_agree (outcome-agrees (front_number head c) (candidate_rows w c))

  pub agreed_agree : agreed head v c ≡ agreed head w c
  unfolding agreed
  agreed_agree = outcome-agrees (front_number head c) (eligible_rows c)

-- ---- (4)
same_alike : {o p : Outcome} → o ≡ p → Alike o p
same_alike e =
    record {
      refusal = ap (λ (x : Outcome). x.refusal) e;
      report = ap (λ (x : Outcome). x.report) e;
      list = ap (λ (x : Outcome). x.list) e;
      agreement = ap (λ (x : Outcome). x.agreement) e;
      ids = ap (λ (x : Outcome). x.answers.ids) e;
      distances = ap (λ (x : Outcome). length x.answers.distances) e;
      bits = λ i. let d = ap (λ (x : Outcome). get_or x.answers.distances i plus_zero) e in rw d;
      rows = ap (λ (x : Outcome). x.answers.rows) e;
      starts = ap (λ (x : Outcome). x.answers.starts) e;
      lengths = ap (λ (x : Outcome). x.answers.lengths) e;
      work = ap (λ (x : Outcome). x.work) e;
    }

pub alike : (c : Call) (state : CacheState) (cache : List ℕ) (built : ResidentState) (codes : List ℤ) (scales : List Float) (norms : List ℤ)
    → LeftByPreparing c.manifest c.segments cache → Opens c.manifest cache state
    → LeftByBuilding c.manifest c.segments built codes scales norms
    → Alike (cached state cache c) (resident built codes scales norms c) × Alike (agreement_cached state cache c) (agreement_resident built codes scales norms c)
alike c state cache built codes scales norms p o b =
    let m = c.manifest in
    let s = c.segments in
    let v = cached_rows m state cache in
    let w = resident_rows m built codes scales norms in
    let x = cached_own m s cache state p o in
    let y = built_own m s built codes scales norms b in
    let h : state.head ≡ built.head = cached-head m s cache state p o ∙ sym (built-head m s built codes scales norms b) in
    let a : Agree (rows_of m) v w = record { encoding = x.encoding ∙ sym y.encoding; length_ok = x.length_ok ∙ sym y.length_ok; at = λ r l. x.at r l ∙ sym (y.at r l) } in (
      same_alike (ap (λ (g : Head). searched g v c) h ∙ searched_agree built.head v w c a),
      same_alike (ap (λ (g : Head). agreed g v c) h ∙ agreed_agree built.head v w c a),
    )
