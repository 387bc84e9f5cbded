-- The ends of a call, one law for each return.
use mathlib.Core.Path.{◌≡◌, sym, ap, ◌∙◌}
use mathlib.Core.Bool.{Bool, true, false}
use mathlib.Core.List.{List}
use Prim.Native.Nat.{ℕ}
use denote.Bor.{Bor}
use lib.Dec.{eqb}
use lib.ListN.{length}
use borrow.Author.Tests.{eq-eqb, ne_eqb}
use Rattle.std.specs.Prelude.{Option, Result, Err}
use Rattle.le.specs.Le.{zeros}
use Rattle.le.proofs.Chain.{by}
use Rattle.le.proofs.Pastes.{paste-nil}
use Rattle.rank.specs.Sort.{least}
use Rattle.config.specs.Refusal.{Refusal, none, refused, then_refusal, unless_refused}
use Rattle.config.specs.Told.{number_of, told_by}
use Rattle.config.specs.declared.Number.{Number}
use Rattle.config.specs.declared.Refused.{Refused}
use Rattle.config.proofs.Numbers.{some_number}
use Rattle.config.proofs.Refusals.{not_zero, none_fails, all_hold, one_fails}
use Rattle.format.specs.Fields.{rows_of}
use Rattle.format.specs.declared.Head.{Head}
use Rattle.entries.specs.Plan.{bad_entry}
use Rattle.search_spec.specs.declared.Call.{Call as CallAsLent}
use Rattle.search_spec.specs.declared.Answers.{Answers as AnswersAsLent}
use Rattle.search_spec.specs.Lent.{Rows, Answers, Work, Call, Singles, wanted_of, everyone, work_of}
use Rattle.search_spec.specs.Tests.{entries_refusal, front_number}
use Rattle.search_spec.specs.Lists.{is_eligible, eligible, eligible_rows, candidate_rows, listed_rows}
use Rattle.search_spec.specs.Scan.{scan_refusal, records_refusal}
use Rattle.search_spec.specs.Outcome.{place_of, report_of, measured_rows, list_of, filled, cleared, late_refusal, outcome_by, no_report, same_places}
use Rattle.answers.specs.Report.{AnswerOutcome, answered, answered_by}
use Rattle.answers.specs.declared.Answered.{Answered}
use Rattle.answers.proofs.Places.{answers-same}
use Rattle.ranked.specs.Ends.{Ends, lent_call, looked_at, rest_refusal, count_of}
use Rattle.call.specs.Whole.{outcome_of}
use Rattle.call.proofs.Counts.{counted}

-- ---- the tests after 20, one after the other
module _ (rows : Rows) (c : Call) (looked : List ℕ) where
  abbrev m : List ℕ
  m = c.manifest

  pub late-entries : (w : Refused) → told_by w ≡ entries_refusal m none → told_by w ≡ late_refusal rows c looked
  unfolding late_refusal
  late-entries w h = h ∙ one_fails 21 (bad_entry m) (rows_of m) none x ∙ sym (one_fails 21 (bad_entry m) (rows_of m) _ x)
    where
      x : bad_entry m ≡ rows_of m → ⊥
      x p = some_number w.number (ap (λ (r : Refusal). r.number) {y = none} (h ∙ all_hold 21 (bad_entry m) (rows_of m) none p))

  module _ (h : none ≡ entries_refusal m none) where
    pass : bad_entry m ≡ rows_of m
    pass = (none_fails 21 (bad_entry m) (rows_of m) none not_zero (sym (ap (λ (r : Refusal). r.number) h))).0

    pub late-none : c.k ≡ 0 → none ≡ late_refusal rows c looked
    unfolding late_refusal
    late-none z = rw (eq-eqb (bad_entry m) (rows_of m) pass, eq-eqb c.k 0 z)

    pub late-short : (c.k ≡ 0 → ⊥) → rows.length_ok ≡ false → refused 21 0 ≡ late_refusal rows c looked
    unfolding late_refusal scan_refusal
    late-short n w = rw (eq-eqb (bad_entry m) (rows_of m) pass, ne_eqb c.k 0 n, w)

    pub late-rest : (c.k ≡ 0 → ⊥) → then_refusal (scan_refusal rows c) (records_refusal m c.segments c.query looked) ≡ late_refusal rows c looked
    unfolding late_refusal
    late-rest n = rw (eq-eqb (bad_entry m) (rows_of m) pass, ne_eqb c.k 0 n)

-- ---- the answers with k = 0
pub none_filled : (rows : Rows) (c : Call) → c.k ≡ 0 → c.answers ≡ filled (list_of rows c) c.answers
unfolding filled list_of listed_rows least
none_filled rows c z =
    let a = c.answers in
    rw z (sym (answers-same (paste-nil a.ids 0) (paste-nil a.distances 0) (paste-nil a.rows 0) (paste-nil a.starts 0) (paste-nil a.lengths 0)))

-- an agreement of no places
pub none_agree : (agree : Bool) (rows : Rows) (c : Call) → c.k ≡ 0 → 0 ≡ count_of agree rows c
unfolding listed_rows least same_places
none_agree agree rows c z = by agree (λ e. rw (e, z)) (λ e. rw e)

-- ---- no end looks at the working slices, nor at the ids but for the rows that they make eligible
module _ (agree : Bool) (rows : Rows) (k : CallAsLent) (a : AnswersAsLent) (x y : Option (Bor (List ℕ))) (w u : Work) where
  pub same-eligible : is_eligible (wanted_of x) everyone k.manifest.now ≡ is_eligible (wanted_of y) everyone k.manifest.now → {r : AnswerOutcome} {o : Answers}
      → let c = lent_call k x a w in
      let d = lent_call k y a u in
      Ends agree rows c (rest_refusal agree rows c) r o → Ends agree rows d (rest_refusal agree rows d) r o
  unfolding scan_refusal report_of measured_rows list_of place_of candidate_rows listed_rows eligible_rows eligible
  same-eligible e h = record { is = rw e at h.is; leaves = rw e at h.leaves }

-- ---- the whole
abbrev pub Whole : Bool → Head → Rows → Call → AnswerOutcome → Answers → Work → Type 0
Whole agree head rows c r a w = let o = outcome_of agree head rows c in (r ≡ answered_by agree o) × (a ≡ o.answers) × (w ≡ o.work)

module _ (agree : Bool) (head : Head) (rows : Rows) (c : Call) where
  pub front-refused : {n : Number} {r : Result Answered Refused} → number_of n ≡ front_number head c → r ≡ Err (record { number = n; place = 0 })
      → Whole agree head rows c (answered r) c.answers c.work
  unfolding outcome_by
  front-refused {n} e h =
      let u = ne_eqb (number_of n) 0 (some_number n) in
      let t : eqb (front_number head c) 0 ≡ false = ap (λ x. eqb x 0) (sym e) ∙ u in
      (by agree (λ g. rw (h, g, t, ← e, u)) (λ g. rw (h, g, t, ← e, u)), rw (t, ← e, u), rw t)

  pub front-passed : {r : AnswerOutcome} {a : Answers} {w : Work} → Singles c.query → front_number head c ≡ 0 → Ends agree rows c (late_refusal rows c (looked_at agree rows c)) r a
      → w ≡ cleared c.work → Whole agree head rows c r a w
  unfolding outcome_by
  front-passed f z E h =
      let t : eqb (front_number head c) 0 ≡ true = eq-eqb (front_number head c) 0 z in
      (rw t (E.is ∙ ap (λ n. record { refusal = late_refusal rows c (looked_at agree rows c); report = unless_refused (late_refusal rows c (looked_at agree rows c)) (report_of rows c) no_report; agreement = n }) (counted agree head rows c f z)), rw t E.leaves, rw t h)

-- each slice cleared, of the length that it was lent with
pub all-cleared : (a b x a' b' x' : List ℕ) {p q r : List ℕ} → length a ≡ length a' → length b ≡ length b' → length x ≡ length x'
    → (p ≡ zeros a) × (q ≡ zeros b) × (r ≡ zeros x) → work_of p q r ≡ cleared (work_of a' b' x')
unfolding cleared
all-cleared a b x a' b' x' e f g h = rw (h.0, h.1, h.2, e, f, g)
