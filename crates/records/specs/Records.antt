-- Kept rows as a slice of records (document 01, The report: "past the core, kept rows are handed out as a lent slice of records (distance, id,
-- row)"; What each place turns away, 20: "a slice of records under their count"; readings R28: a count over one of the answer slices is also 20; place 0).
use Rattle.std.specs.Prelude.{Bool, true, cond, ◌&&◌, List, map, ℕ, leb, length, get_or, Float}
use Rattle.std.specs.Float.{nan}
use Rattle.le.specs.Le.{paste}
use Rattle.rank.specs.Rows.{passing}
use Rattle.config.specs.Refusal.{Refusal, none, refused, unless_refused}
use Rattle.records.specs.declared.Record.{Record}

-- of a count and the lengths of ids, distances, rows and the slice of records
abbrev pub records_room_ok : ℕ → ℕ → ℕ → ℕ → ℕ → Bool
records_room_ok count ids distances rows room = leb count ids && leb count distances && leb count rows && leb count room

abbrev pub room_refusal : ℕ → ℕ → ℕ → ℕ → ℕ → Refusal
room_refusal count ids distances rows room = cond (records_room_ok count ids distances rows room) none (refused 20 0)

-- of ids, distances and rows, and the length of the slice of records
abbrev pub hand_out_refusal : List ℕ → List Float → List ℕ → ℕ → ℕ → Refusal
hand_out_refusal ids distances rows count room = room_refusal count (length ids) (length distances) (length rows) room

abbrev pub place_record : List ℕ → List Float → List ℕ → ℕ → Record
place_record ids distances rows i = record { distance = get_or distances i nan; id = get_or ids i 0; row = get_or rows i 0 }

-- the first n of them
abbrev pub listed_upto : List ℕ → List Float → List ℕ → ℕ → List Record
listed_upto ids distances rows n = map (place_record ids distances rows) (passing (λ i. true) n)

-- "Records past the count stay", and all of them where it is refused
abbrev pub handed_out : List ℕ → List Float → List ℕ → ℕ → List Record → List Record
handed_out ids distances rows count out =
    unless_refused (hand_out_refusal ids distances rows count (length out)) (paste out 0 (listed_upto ids distances rows count)) out
