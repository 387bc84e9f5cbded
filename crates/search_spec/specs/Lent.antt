-- What is lent to a search.
use Rattle.std.specs.Prelude.{◌≡◌, Bool, true, false, List, ℕ, length, Float, Option, Some, None}
use Rattle.std.specs.Float.{binary32}
use Rattle.std.specs.Float.Ieee.{fits}
use Rattle.rank.specs.Limit.{among}
use Rattle.config.specs.Vector.{all}
use Rattle.quantization.specs.View.{View}
use Rattle.quantization.specs.Encoder.{base_levels, midpoints}
use Rattle.search_spec.specs.declared.Call.{Call as CallAsLent}
use Rattle.search_spec.specs.declared.Answers.{Answers as AnswersAsLent}
use Rattle.search_spec.specs.declared.Work.{Work as WorkAsLent}
use denote.Bor.{Bor}

-- How rows and query are encoded (document 01, The arithmetic, Encoder): the level count, and the midpoints.
pub record Encoding : Type 0 where
  pub levels : ℕ
  pub mids : List Float

-- the base's
abbrev pub base : Encoding
base = record { levels = base_levels; mids = midpoints }

-- The rows to be scanned, cached or resident: their encoding; whether they have the length that they were opened or built with and need
-- (document 01, What each place turns away, 21: "the cache or resident length differs"; readings R3); and row n as it is seen.
pub record Rows : Type 0 where
  pub encoding : Encoding
  pub length_ok : Bool
  pub at : ℕ → View

-- The ids handed in (readings R18, R19): no list, so that every id is wanted, or a list, whose ids "may repeat or be unknown".
pub data Wanted : Type 0 where
  every : Wanted
  only : List ℕ → Wanted

-- all ids, or these
abbrev pub given : Bool → List ℕ → Wanted
given true ids = every
given false ids = only ids

-- as they are lent
abbrev pub wanted_of : Option (Bor (List ℕ)) → Wanted
wanted_of None = every
wanted_of (Some ids) = only ids.now

-- their count as handed in, "repeats with them" (readings R18)
abbrev pub handed : Wanted → ℕ
handed every = 0
handed (only ids) = length ids

unfoldable pub wants : Wanted → ℕ → Bool
wants every id = true
wants (only ids) id = among id ids

-- today every id is allowed
abbrev pub everyone : ℕ → Bool
everyone id = true

-- the query's values are f32, as they are lent
abbrev pub Singles : List Float → Type 0
Singles query = all (fits binary32) query ≡ true

-- The answer slices (readings R20).
pub record Answers : Type 0 where
  pub ids : List ℕ
  pub distances : List Float
  pub rows : List ℕ
  pub starts : List ℕ
  pub lengths : List ℕ

abbrev pub answers_of : List ℕ → List Float → List ℕ → List ℕ → List ℕ → Answers
answers_of ids distances rows starts lengths = record { ids = ids; distances = distances; rows = rows; starts = starts; lengths = lengths }

-- The working slices: for the candidates, keys of distances and rows; for the ids, one (readings R18, R20).
pub record Work : Type 0 where
  pub keys : List ℕ
  pub rows : List ℕ
  pub ids : List ℕ

abbrev pub work_of : List ℕ → List ℕ → List ℕ → Work
work_of keys rows ids = record { keys = keys; rows = rows; ids = ids }

-- What is lent beside the rows and the head that was accepted with them.
pub record Call : Type 0 where
  pub manifest : List ℕ
  pub segments : List ℕ
  pub wanted : Wanted
  pub allowed : ℕ → Bool
  pub query : List Float
  pub k : ℕ
  pub limit : ℕ
  pub answers : Answers
  pub work : Work

-- a call of today, when every id is allowed
abbrev pub call_of : List ℕ → List ℕ → Wanted → List Float → ℕ → ℕ → Answers → Work → Call
call_of m s wanted query k limit a w =
    record { manifest = m; segments = s; wanted = wanted; allowed = everyone; query = query; k = k; limit = limit; answers = a; work = w }

-- as they are lent
abbrev pub answers_in : AnswersAsLent → Answers
answers_in a = answers_of a.ids.now a.distances.now a.rows.now a.starts.now a.lengths.now

abbrev pub work_in : WorkAsLent → Work
work_in w = work_of w.keys.now w.candidates.now w.ids.now

-- and the slices lent stay the same ones: none is exchanged
abbrev pub SameAnswers : AnswersAsLent → AnswersAsLent → Type 0
SameAnswers a b =
    (b.ids.ghost_name ≡ a.ids.ghost_name)
    × (b.distances.ghost_name ≡ a.distances.ghost_name)
    × (b.rows.ghost_name ≡ a.rows.ghost_name)
    × (b.starts.ghost_name ≡ a.starts.ghost_name)
    × (b.lengths.ghost_name ≡ a.lengths.ghost_name)

abbrev pub SameWork : WorkAsLent → WorkAsLent → Type 0
SameWork v w =
    (w.keys.ghost_name ≡ v.keys.ghost_name) × (w.candidates.ghost_name ≡ v.candidates.ghost_name) × (w.ids.ghost_name ≡ v.ids.ghost_name)

abbrev pub call_in : CallAsLent → AnswersAsLent → WorkAsLent → Call
call_in c a w = call_of c.manifest.now c.segments.now (wanted_of c.wanted) c.query.now c.k c.limit (answers_in a) (work_in w)
