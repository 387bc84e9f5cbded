-- Between functions: what they promise one another. No contract of an entry and no theorem rests on this file.
-- How the part of a call past 20 ends (document 01, The report), and the room that it has.
use Rattle.std.specs.Prelude.{◌≡◌, Bool, cond, List, ℕ, ◌≤◌, Option}
use denote.Bor.{Bor}
use Rattle.config.specs.Refusal.{Refusal, then_refusal, unless_refused}
use Rattle.search_spec.specs.declared.Room.{Room}
use Rattle.search_spec.specs.declared.Call.{Call as CallAsLent}
use Rattle.search_spec.specs.declared.Answers.{Answers as AnswersAsLent}
use Rattle.search_spec.specs.Lent.{Rows, Answers, Work, Call, wanted_of, answers_in, call_of}
use Rattle.search_spec.specs.Lists.{is_eligible, eligible_rows, candidate_rows, listed_rows}
use Rattle.search_spec.specs.Scan.{scan_refusal, records_refusal}
use Rattle.search_spec.specs.Outcome.{no_report, report_of, list_of, same_places, filled}
use Rattle.agreement.specs.Count.{all_ranked}
use Rattle.answers.specs.Report.{AnswerOutcome}

-- a call, of its parts as they are lent, where these ids are wanted
abbrev pub lent_call : CallAsLent → Option (Bor (List ℕ)) → AnswersAsLent → Work → Call
lent_call c wanted a w = call_of c.manifest.now c.segments.now (wanted_of wanted) c.query.now c.k c.limit (answers_in a) w

-- n answers and l candidates have room
pub record Fits (n l : ℕ) (r : Room) : Type 0 where
  pub ids : n ≤ r.ids
  pub distances : n ≤ r.distances
  pub rows : n ≤ r.rows
  pub starts : n ≤ r.starts
  pub lengths : n ≤ r.lengths
  pub keys : l ≤ r.keys
  pub candidates : l ≤ r.candidates

-- whose records are looked at: of a search the candidates', of an agreement call all eligible rows' (readings R27)
abbrev pub looked_at : Bool → Rows → Call → List ℕ
looked_at agree rows c = cond agree (eligible_rows c) (candidate_rows rows c)

-- past the entries, with a k that is not 0
abbrev pub rest_refusal : Bool → Rows → Call → Refusal
rest_refusal agree rows c = then_refusal (scan_refusal rows c) (records_refusal c.manifest c.segments c.query (looked_at agree rows c))

-- the agreement, of rows in place of their ids
abbrev pub count_of : Bool → Rows → Call → ℕ
count_of agree rows c =
    cond agree (same_places (listed_rows rows c) (all_ranked c.manifest c.segments c.query (is_eligible c.wanted c.allowed c.manifest))) 0

-- with this refusal, or none: what is returned, and what the answer slices hold
pub record Ends (agree : Bool) (rows : Rows) (c : Call) (refusal : Refusal) (r : AnswerOutcome) (a : Answers) : Type 0 where
  pub is : r ≡ record { refusal = refusal; report = unless_refused refusal (report_of rows c) no_report; agreement = unless_refused refusal (count_of agree rows c) 0 }
  pub leaves : a ≡ unless_refused refusal (filled (list_of rows c) c.answers) c.answers
