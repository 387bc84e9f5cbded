-- Resident building (document 01, What each place turns away: "Preparing, building and opening first test the manifest anew", "Resident
-- building: 8, 11, 5"; "Answer slices, resident slices and the cache are untouched" by a refusal; places: "the row number for .. 5 at a
-- record .. otherwise 0").
use Rattle.std.specs.Prelude.{Bool, ◌&&◌, List, [], ◌∷◌, ℕ, ◌*◌, leb, eqb, ℤ, pos, get_or, Float, Result}
use Rattle.std.specs.Float.{nan}
use Rattle.le.specs.Le.{paste, joined}
use Rattle.config.specs.Refusal.{Refusal, refused_or, unless_refused}
use Rattle.config.specs.Told.{told, granted}
use Rattle.config.specs.declared.Refused.{Refused}
use Rattle.format.specs.Order.{unless}
use Rattle.format.specs.Fields.{dimensions_of, rows_of}
use Rattle.format.specs.Head.{head_at, zero_head}
use Rattle.format.specs.declared.Head.{Head}
use Rattle.cache_format.specs.Sizing.{codes_ok}
use Rattle.manifest.specs.Check.{manifest_number}
use Rattle.quantization.specs.View.{View}
use Rattle.codes.specs.Codes.{part}
use Rattle.encoded_rows.specs.Rows.{row_of, bad_record_refusal}
use Rattle.resident.specs.declared.ResidentState.{ResidentState}

-- "11 is only for .. resident codes under rows × dimensions, or scales, norms .. under rows", of the lengths lent
abbrev pub resident_room_ok : ℕ → ℕ → ℕ → ℕ → ℕ → Bool
resident_room_ok rows dimensions codes scales norms = leb (rows * dimensions) codes && leb rows scales && leb rows norms

-- "8: rows × dimensions over 536,870,912", then 11
unfoldable pub resident_room_number : ℕ → ℕ → ℕ → ℕ → ℕ → ℕ
resident_room_number rows dimensions codes scales norms =
    unless (codes_ok rows dimensions) 8
    (unless (resident_room_ok rows dimensions codes scales norms) 11 0)

-- 8, 11, 5
unfoldable pub planned_refusal : List ℕ → List ℕ → ℕ → ℕ → ℕ → Refusal
planned_refusal m s codes scales norms =
    refused_or (resident_room_number (rows_of m) (dimensions_of m) codes scales norms) (bad_record_refusal m s)

-- `scratch` is the length of the scratch slice
unfoldable pub build_refusal : List ℕ → ℕ → ℕ → List ℕ → ℕ → ℕ → ℕ → Refusal
build_refusal m expected scratch s codes scales norms = refused_or (manifest_number m expected scratch) (planned_refusal m s codes scales norms)

-- readings R2: the accepted head and the lengths as lent; R23: "the state returned by a refused .. building is all zero"
abbrev pub zero_resident_state : ResidentState
zero_resident_state = record { head = zero_head; codes = 0; scales = 0; norms = 0 }

-- a refusal, and what a search compares
pub record Built : Type 0 where
  pub refusal : Refusal
  pub state : ResidentState

-- what the code answers
abbrev pub outcome : Result ResidentState Refused → Built
outcome r = record { refusal = told r; state = granted zero_resident_state r }

unfoldable pub resident_answer : Head → Refusal → ℕ → ℕ → ℕ → Built
resident_answer head refusal codes scales norms =
    record {
      refusal = refusal;
      state = unless_refused refusal (record { head = head; codes = codes; scales = scales; norms = norms }) zero_resident_state;
    }

abbrev pub built_by : List ℕ → Refusal → ℕ → ℕ → ℕ → Built
built_by m refusal codes scales norms = resident_answer (head_at m) refusal codes scales norms

-- the whole answer, of an accepted manifest and of any; its refusal says what is left of each slice lent
abbrev pub built_accepted : List ℕ → List ℕ → ℕ → ℕ → ℕ → Built
built_accepted m s codes scales norms = built_by m (planned_refusal m s codes scales norms) codes scales norms

abbrev pub built : List ℕ → ℕ → ℕ → List ℕ → ℕ → ℕ → ℕ → Built
built m expected scratch s codes scales norms = built_by m (build_refusal m expected scratch s codes scales norms) codes scales norms

-- the codes, scales and norms of the first n rows by an encoder's levels and midpoints (document 01, The arithmetic, Encoder), and what stood
-- past them (readings R2: "Elements past the rows are neither written nor tested")
abbrev pub codes_upto : ℕ → List Float → List ℕ → List ℕ → ℕ → List ℤ → List ℤ
codes_upto levels mids m s n d = paste d 0 (joined (λ r. (row_of levels mids m s r).codes) n)

abbrev pub scales_upto : ℕ → List Float → List ℕ → List ℕ → ℕ → List Float → List Float
scales_upto levels mids m s n d = paste d 0 (joined (λ r. (row_of levels mids m s r).scale ∷ []) n)

abbrev pub norms_upto : ℕ → List Float → List ℕ → List ℕ → ℕ → List ℤ → List ℤ
norms_upto levels mids m s n d = paste d 0 (joined (λ r. (row_of levels mids m s r).norm ∷ []) n)

-- what building leaves of a lent slice: all rows where nothing is refused, else what was lent
abbrev pub codes_after : ℕ → List Float → List ℕ → List ℕ → Refusal → List ℤ → List ℤ
codes_after levels mids m s refusal d = unless_refused refusal (codes_upto levels mids m s (rows_of m) d) d

abbrev pub scales_after : ℕ → List Float → List ℕ → List ℕ → Refusal → List Float → List Float
scales_after levels mids m s refusal d = unless_refused refusal (scales_upto levels mids m s (rows_of m) d) d

abbrev pub norms_after : ℕ → List Float → List ℕ → List ℕ → Refusal → List ℤ → List ℤ
norms_after levels mids m s refusal d = unless_refused refusal (norms_upto levels mids m s (rows_of m) d) d

-- row n of resident slices, as a search sees it
abbrev pub resident_at : ℕ → List ℤ → List Float → List ℤ → ℕ → View
resident_at dimensions codes scales norms n = record { scale = get_or scales n nan; norm = get_or norms n (pos 0); codes = part dimensions codes (n * dimensions) }

-- the lengths of the slices lent to a search (document 01, What each place turns away, 21: "the cache or resident length differs"): as building's state has them,
-- and, of a state that no building returned, not under what the rows need (readings R3)
unfoldable pub resident_lengths_ok : ResidentState → ℕ → ℕ → ℕ → ℕ → ℕ → Bool
resident_lengths_ok state rows dimensions codes scales norms =
    eqb codes state.codes && eqb scales state.scales && eqb norms state.norms && resident_room_ok rows dimensions codes scales norms
