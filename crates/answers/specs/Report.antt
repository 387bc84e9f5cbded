-- Between functions: what they promise one another. No contract of an entry and no theorem rests on this file.
-- What a search or an agreement call returns (document 01, The report), from its numbers.
use Rattle.std.specs.Prelude.{Bool, true, cond, List, ℕ, Result}
use Rattle.config.specs.Told.{told, granted}
use Rattle.config.specs.Refusal.{Refusal}
use Rattle.config.specs.declared.Refused.{Refused}
use Rattle.format.specs.Fields.{generation_of, sequence_of}
use Rattle.search_spec.specs.Outcome.{Outcome, no_report}
use Rattle.search_spec.specs.declared.Report.{Report}
use Rattle.answers.specs.declared.Answered.{Answered}

-- "`complete` is true in every report"
unfoldable pub report_by : List ℕ → ℕ → ℕ → Bool → ℕ → Report
report_by m eligible measured approximate count =
    record {
      generation = generation_of m;
      sequence = sequence_of m;
      eligible = eligible;
      measured = measured;
      complete = true;
      approximate = approximate;
      count = count;
    }

-- a refusal, or the report of a call and, of an agreement call, its count
pub record AnswerOutcome : Type 0 where
  pub refusal : Refusal
  pub report : Report
  pub agreement : ℕ

-- what the code answers ("All counts are then 0")
abbrev pub answered : Result Answered Refused → AnswerOutcome
answered r =
    let a = granted (record { report = no_report; agreement = 0 }) r in
    record { refusal = told r; report = a.report; agreement = a.agreement }

-- what is returned of an outcome: its agreement if that is asked for
abbrev pub answered_by : Bool → Outcome → AnswerOutcome
answered_by agree o = record { refusal = o.refusal; report = o.report; agreement = cond agree o.agreement 0 }
