-- The ends of a call past its tests: a refusal, or a list with its report.
use mathlib.Core.Path.{◌≡◌, refl, sym}
use mathlib.Core.Bool.{Bool, true, false}
use Prim.Native.Nat.{ℕ}
use lib.Dec.{ltb}
use lib.ListN.{length}
use borrow.Author.Tests.{eq-eqb, ne_eqb}
use Rattle.std.specs.Prelude.{Result, Ok, Err}
use Rattle.rank.specs.Sort.{least}
use Rattle.config.specs.Refusal.{Refusal, none}
use Rattle.config.specs.Told.{told_by}
use Rattle.config.specs.declared.Refused.{Refused}
use Rattle.config.proofs.Numbers.{some_number}
use Rattle.search_spec.specs.declared.Report.{Report}
use Rattle.quantization.specs.View.{View}
use Rattle.search_spec.specs.Lent.{Rows, Answers, Call, base}
use Rattle.search_spec.specs.Lists.{eligible_rows, candidate_rows, listed_rows}
use Rattle.search_spec.specs.Outcome.{report_of, measured_rows, list_of, filled}
use Rattle.answers.specs.Report.{AnswerOutcome, answered, report_by}
use Rattle.answers.specs.declared.Answered.{Answered}
use Rattle.ranked.specs.Ends.{Ends, rest_refusal, count_of}
use Rattle.ranked.proofs.Found.{seen_at}

module _ {agree : Bool} {rows : Rows} {c : Call} where
  pub ends_as : {f g : Refusal} {r : AnswerOutcome} {a : Answers} → f ≡ g → Ends agree rows c f r a → Ends agree rows c g r a
  ends_as {r} {a} e h = rw e at h

  -- a refusal
  pub turned : {r : Result Answered Refused} {w : Refused} → r ≡ Err w → Ends agree rows c (told_by w) (answered r) c.answers
  turned {w} h = let e = ne_eqb (told_by w).number 0 (some_number w.number) in record { is = rw (h, e) refl; leaves = rw e refl }

  -- none
  pub done : {p : Report} {n : ℕ} {a : Answers} → p ≡ report_of rows c → n ≡ count_of agree rows c → a ≡ filled (list_of rows c) c.answers
      → Ends agree rows c none (answered (Ok (record { report = p; agreement = n }))) a
  done h n g = record { is = rw (h, n) refl; leaves = g }

-- the rows that a call sees, by what is known of them
pub ends-seen : {agree : Bool} {c : Call} (v : Rows) {at : ℕ → View} {r : AnswerOutcome} {a : Answers} → v.encoding ≡ base → v.length_ok ≡ true → v.at ≡ at
    → Ends agree (seen_at at) c (rest_refusal agree (seen_at at) c) r a → Ends agree v c (rest_refusal agree v c) r a
ends-seen {agree} {c} v {at} {r} {a} e w p h =
    let s : seen_at at ≡ v = λ i. record { encoding = sym e i; length_ok = sym w i; at = sym p i } in rw s at h

-- the report
module _ (rows : Rows) (c : Call) {total : ℕ} (t : total ≡ length (eligible_rows c)) where
  pub report-is : (c.k ≡ 0 → ⊥) → {measured count : ℕ} → measured ≡ length (candidate_rows rows c) → count ≡ length (listed_rows rows c)
      → report_by c.manifest total measured (ltb c.limit total) count ≡ report_of rows c
  unfolding report_by report_of measured_rows
  report-is n e f = rw (ne_eqb c.k 0 n, ← t, ← e, ← f)

  pub report-none : c.k ≡ 0 → report_by c.manifest total 0 false 0 ≡ report_of rows c
  unfolding report_by report_of measured_rows listed_rows least
  report-none z = rw (← t, eq-eqb c.k 0 z, z)
