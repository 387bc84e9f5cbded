-- The outcome of a search (document 01, The report).
use Rattle.std.specs.Prelude.{◌≡◌, true, false, not, cond, ◌&&◌, List, [], ◌∷◌, map, ℕ, suc, ltb, eqb, length, get_or, take, Result}
use Rattle.config.specs.Refusal.{Refusal, none, then_refusal, refused_or, unless_refused}
use Rattle.config.specs.Told.{told, granted}
use Rattle.config.specs.declared.Refused.{Refused}
use Rattle.format.specs.Fields.{generation_of, sequence_of, id_at, metadata_at}
use Rattle.format.specs.declared.Head.{Head}
use Rattle.le.specs.Le.{paste, zeros}
use Rattle.float.specs.Values.{plus_zero}
use Rattle.segment.specs.Record.{metadata_start}
use Rattle.search_spec.specs.declared.Place.{Place}
use Rattle.search_spec.specs.declared.Report.{Report}
use Rattle.search_spec.specs.Lent.{Rows, Answers, Work, Call}
use Rattle.search_spec.specs.Tests.{entries_refusal, front_number}
use Rattle.search_spec.specs.Lists.{eligible_rows, original_at, candidate_rows, listed_rows, exact_rows}
use Rattle.search_spec.specs.Scan.{scan_refusal, records_refusal}

-- A place of the list: id, distance, row, and "start and length of its metadata in the segments" (readings R25)
unfoldable pub place_of : Call → ℕ → Place
place_of c r =
    let m = c.manifest in
    record {
      id = id_at m r;
      distance = original_at m c.segments c.query r;
      row = r;
      start = metadata_start m r;
      length = metadata_at m r;
    }

-- refused: "All counts are then 0" (readings R23)
abbrev pub no_report : Report
no_report = record { generation = 0; sequence = 0; eligible = 0; measured = 0; complete = false; approximate = false; count = 0 }

-- All that a call settles: what it returns, and what the answer slices and the working slices hold afterwards. A search returns refusal and
-- report, the agreement call refusal and agreement.
pub record Outcome : Type 0 where
  pub refusal : Refusal
  pub report : Report
  pub list : List Place
  pub agreement : ℕ
  pub answers : Answers
  pub work : Work

-- "`original_distance_computations` equals the count of records measured by the definition": the candidates; with k = 0 none (readings R21)
unfoldable pub measured_rows : Rows → Call → List ℕ
measured_rows rows c = cond (eqb c.k 0) [] (candidate_rows rows c)

-- "`approximate` is limit < eligible. `complete` is true in every report. With k = 0: count 0, `approximate` false"
unfoldable pub report_of : Rows → Call → Report
report_of rows c =
    record {
      generation = generation_of c.manifest;
      sequence = sequence_of c.manifest;
      eligible = length (eligible_rows c);
      measured = length (measured_rows rows c);
      complete = true;
      approximate = not (eqb c.k 0) && ltb c.limit (length (eligible_rows c));
      count = length (listed_rows rows c);
    }

unfoldable pub list_of : Rows → Call → List Place
list_of rows c = map (place_of c) (listed_rows rows c)

-- "the number of places at which the list and the list over all eligible records hold the same id"
unfoldable pub same_places : List ℕ → List ℕ → ℕ
same_places [] ys = 0
same_places (x ∷ xs) [] = 0
same_places (x ∷ xs) (y ∷ ys) = cond (eqb x y) (suc (same_places xs ys)) (same_places xs ys)

unfoldable pub agreement_of : Rows → Call → ℕ
agreement_of rows c = same_places (map (id_at c.manifest) (listed_rows rows c)) (map (id_at c.manifest) (exact_rows c))

-- "Answer slices past the list stay"
unfoldable pub filled : List Place → Answers → Answers
filled l a =
    record {
      ids = paste a.ids 0 (map (λ p. p.id) l);
      distances = paste a.distances 0 (map (λ p. p.distance) l);
      rows = paste a.rows 0 (map (λ p. p.row) l);
      starts = paste a.starts 0 (map (λ p. p.start) l);
      lengths = paste a.lengths 0 (map (λ p. p.length) l);
    }

-- "working slices end all zero", over their whole length (readings R24)
unfoldable pub cleared : Work → Work
cleared w = record { keys = zeros w.keys; rows = zeros w.rows; ids = zeros w.ids }

-- The tests after 20, in their order; `looked` are the rows whose records are looked at.
unfoldable pub late_refusal : Rows → Call → List ℕ → Refusal
late_refusal rows c looked =
    entries_refusal c.manifest
    (cond (eqb c.k 0) none
    (then_refusal (scan_refusal rows c) (records_refusal c.manifest c.segments c.query looked)))

-- All of a call, by the number of its tests up to 20, or 0. "Answer slices .. are untouched" by a refusal; "Once past 20 .., working slices end
-- all zero; refused up to there, they stay"
unfoldable pub outcome_by : ℕ → Rows → Call → List ℕ → Outcome
outcome_by number rows c looked =
    let refusal = refused_or number (late_refusal rows c looked) in
    record {
      refusal = refusal;
      report = unless_refused refusal (report_of rows c) no_report;
      list = unless_refused refusal (list_of rows c) [];
      agreement = unless_refused refusal (agreement_of rows c) 0;
      answers = unless_refused refusal (filled (list_of rows c) c.answers) c.answers;
      work = cond (eqb number 0) (cleared c.work) c.work;
    }

-- a search: records of the candidates
unfoldable pub searched : Head → Rows → Call → Outcome
searched head rows c = outcome_by (front_number head c) rows c (candidate_rows rows c)

-- the agreement count: "It is its own call, refusing as a search does, 23 and 24 over all eligible rows, and leaves the answer slices as that
-- search would" (readings R27)
unfoldable pub agreed : Head → Rows → Call → Outcome
agreed head rows c = outcome_by (front_number head c) rows c (eligible_rows c)

-- what a search returns: a refusal, or its report; and what an agreement call does: a refusal, or its count
pub record Searched : Type 0 where
  pub refusal : Refusal
  pub report : Report

pub record Agreed : Type 0 where
  pub refusal : Refusal
  pub agreement : ℕ

-- of what the code answers
abbrev pub search_outcome : Result Report Refused → Searched
search_outcome r = record { refusal = told r; report = granted no_report r }

abbrev pub count_outcome : Result ℕ Refused → Agreed
count_outcome r = record { refusal = told r; agreement = granted 0 r }

-- what a search returns of an outcome, and what the agreement call does
abbrev pub returned : Outcome → Searched
returned o = record { refusal = o.refusal; report = o.report }

abbrev pub returned_count : Outcome → Agreed
returned_count o = record { refusal = o.refusal; agreement = o.agreement }

-- "A search succeeds when no check refuses it"
abbrev pub Succeeds : Outcome → Type 0
Succeeds o = o.refusal.number ≡ 0

-- place i of the answer slices, and the rows that they list
abbrev pub shown : Outcome → ℕ → Place
shown o i =
    let a = o.answers in
    record { id = get_or a.ids i 0; distance = get_or a.distances i plus_zero; row = get_or a.rows i 0; start = get_or a.starts i 0; length = get_or a.lengths i 0 }

abbrev pub shown_rows : Outcome → List ℕ
shown_rows o = take o.report.count o.answers.rows
