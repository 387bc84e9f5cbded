-- Between functions: what they promise one another. No contract of an entry and no theorem rests on this file.
-- The outcome of a call, a search or an agreement count (document 01, The report).
use Rattle.std.specs.Prelude.{Bool, List, ℕ}
use Rattle.format.specs.declared.Head.{Head}
use Rattle.search_spec.specs.declared.Call.{Call as CallAsLent}
use Rattle.search_spec.specs.declared.Answers.{Answers as AnswersAsLent}
use Rattle.search_spec.specs.Lent.{Rows, Call, work_of}
use Rattle.search_spec.specs.Tests.{front_number}
use Rattle.search_spec.specs.Outcome.{Outcome, outcome_by}
use Rattle.ranked.specs.Ends.{lent_call, looked_at}

abbrev pub outcome_of : Bool → Head → Rows → Call → Outcome
outcome_of agree head rows c = outcome_by (front_number head c) rows c (looked_at agree rows c)

-- a call, with its working slices for keys, candidates and ids
abbrev pub worked_call : CallAsLent → AnswersAsLent → List ℕ → List ℕ → List ℕ → Call
worked_call c a keys candidates ids = lent_call c c.wanted a (work_of keys candidates ids)
