-- What an entry answers, as document 01's number and place ("Where an answer is an enum, the promises use a definition. The definition gives this
-- paper's number and values for each of the enum's cases"; What each place turns away: "A refusal returns its number and a place").
use Rattle.std.specs.Prelude.{ℕ, Option, Some, None, cond, eqb, Result, Ok, Err}
use Rattle.config.specs.Refusal.{Refusal, none, refused}
use Rattle.config.specs.declared.Refused.{Refused}
use Rattle.config.specs.declared.Number.{Number}
use Rattle.config.specs.declared.Number.TheVariants as N

-- the table's number of each case
abbrev pub number_of : Number → ℕ
number_of N.Layout = 1
number_of N.Configuration = 2
number_of N.ManifestCrc = 3
number_of N.Tiling = 4
number_of N.Record = 5
number_of N.SegmentCrc = 6
number_of N.Options = 7
number_of N.CodeBytes = 8
number_of N.CacheBytes = 9
number_of N.Names = 10
number_of N.Room = 11
number_of N.CacheHead = 12
number_of N.Identity = 13
number_of N.Row = 14
number_of N.CacheCrc = 15
number_of N.Query = 16
number_of N.Results = 17
number_of N.Candidates = 18
number_of N.Ids = 19
number_of N.AnswerRoom = 20
number_of N.Changed = 21
number_of N.Approximate = 22
number_of N.RecordChanged = 23
number_of N.Original = 24

-- the number of what is refused at 0, and 0 where nothing is
abbrev pub numbered : {A : Type 0} → Result A Number → ℕ
numbered (Ok a) = 0
numbered (Err n) = number_of n

-- a refusal's number and place
abbrev pub told_by : Refused → Refusal
told_by r = refused (number_of r.number) r.place

-- what is refused: nothing, or a number at a place
abbrev pub told : {A : Type 0} → Result A Refused → Refusal
told (Ok a) = none
told (Err r) = told_by r

-- what is granted: on a refusal what stands for nothing ("All counts are then 0")
abbrev pub granted : {A E : Type 0} → A → Result A E → A
granted other (Ok a) = a
granted other (Err r) = other

-- the first of n that something is said of, as an answer: none where it is n
abbrev pub found : ℕ → ℕ → Option ℕ
found n i = cond (eqb i n) None (Some i)
