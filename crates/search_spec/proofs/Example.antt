-- Document 01's worked example, computed from the definitions: "On generation 3, sequence 7, L2, ids 1 (127, 0) and 2 (127, 0.25), query
-- (127, 0.25), k 1, limit 1", and limit 2.
use mathlib.Core.Path.{◌≡◌}
use mathlib.Core.Bool.{Bool, true, false}
use mathlib.Core.List.{List, [], ◌∷◌, ◌++◌, map}
use Prim.Native.Nat.{ℕ}
use lib.Dec.{eqb}
use lib.IntN.{ℤ, pos, negsuc}
use lib.ListN.{set, replicate}
use lib.Ieee.{Float, fin, binary64, to_bits}
use Rattle.le.specs.Le.{bytes}
use Rattle.float.specs.Values.{one}
use Rattle.config.specs.Refusal.{refused}
use Rattle.quantization.specs.View.{row_bytes}
use Rattle.format.specs.Fields.{magic}
use Rattle.format.specs.Head.{head_at}
use Rattle.resident.specs.declared.ResidentState.{ResidentState}
use Rattle.search_spec.specs.Lent.{Wanted, every, only, Call, everyone}
use Rattle.search_spec.specs.Lists.{by_original}
use Rattle.search_spec.specs.Outcome.{Outcome}
use Rattle.search_spec.specs.Kept.{cached, resident, agreement_resident}

-- one segment of two records, a model of one byte
abbrev manifest : List ℕ
manifest =
    magic ++ bytes 8 3 ++ bytes 8 7 ++ bytes 4 2 ++ bytes 4 16 ++ bytes 4 200 ++ bytes 8 0 ++ 0 ∷ bytes 4 1 ++ 109 ∷ bytes 4 1 ++ bytes 8 2
    ++ bytes 8 44 ++ bytes 4 0
    ++ bytes 8 1 ++ bytes 4 0 ++ bytes 4 0 ++ bytes 4 0
    ++ bytes 8 2 ++ bytes 4 0 ++ bytes 4 20 ++ bytes 4 0
    ++ bytes 4 0

abbrev segments : List ℕ
segments =
    bytes 8 1 ++ bytes 4 0 ++ bytes 4 0x42fe0000 ++ bytes 4 0
    ++ bytes 8 2 ++ bytes 4 0 ++ bytes 4 0x42fe0000 ++ bytes 4 0x3e800000
    ++ bytes 4 0

-- the encoder's rows: (127, 0.25) has the codes of (127, 0)
abbrev codes : List ℤ
codes = pos 127 ∷ pos 0 ∷ pos 127 ∷ pos 0 ∷ []

abbrev call : ℕ → Call
call limit =
    record {
      manifest = manifest;
      segments = segments;
      wanted = every;
      allowed = everyone;
      query = fin false 127 (pos 0) ∷ fin false 1 (negsuc 1) ∷ [];
      k = 1;
      limit = limit;
      answers = record { ids = 9 ∷ 9 ∷ []; distances = one ∷ one ∷ []; rows = 9 ∷ 9 ∷ []; starts = 9 ∷ 9 ∷ []; lengths = 9 ∷ 9 ∷ [] };
      work = record { keys = 9 ∷ 9 ∷ 9 ∷ []; rows = 9 ∷ 9 ∷ 9 ∷ []; ids = [] };
    }

abbrev state : ResidentState
state = record { head = head_at manifest; codes = 4; scales = 2; norms = 2 }

abbrev outcome : ℕ → Outcome
outcome limit = resident state codes (one ∷ one ∷ []) (pos 16129 ∷ pos 16129 ∷ []) (call limit)

abbrev agreement : ℕ → ℕ
agreement limit = (agreement_resident state codes (one ∷ one ∷ []) (pos 16129 ∷ pos 16129 ∷ []) (call limit)).agreement

-- the answer slices as they stand afterwards, distances by their bits
abbrev pub slices : Outcome → List (List ℕ)
slices o = let a = o.answers in a.ids ∷ map (to_bits binary64) a.distances ∷ a.rows ∷ a.starts ∷ a.lengths ∷ []

-- the same rows in a cache, with 20 bytes before them and 4 after
abbrev cache : List ℕ
cache =
    let row = row_bytes (record { scale = one; norm = pos 16129; codes = pos 127 ∷ pos 0 ∷ [] }) in
    replicate 20 0 ++ row ++ row ++ replicate 4 0

abbrev in_cache : ℕ → Outcome
in_cache limit = cached (record { head = head_at manifest; cache = 60 }) cache (call limit)

-- the same with other bytes, ids, k or rows, three ids in the id slice
abbrev other_for : (ℕ → Bool) → List ℕ → List ℕ → Wanted → ℕ → ℕ → Call
other_for allowed m s wanted k limit =
    record {
      manifest = m;
      segments = s;
      wanted = wanted;
      allowed = allowed;
      query = (call 1).query;
      k = k;
      limit = limit;
      answers = (call 1).answers;
      work = record { keys = 9 ∷ 9 ∷ []; rows = 9 ∷ 9 ∷ []; ids = 9 ∷ 9 ∷ 9 ∷ [] };
    }

abbrev other : List ℕ → List ℕ → Wanted → ℕ → ℕ → Call
other = other_for everyone

abbrev run : Call → ℕ → List Float → ℤ → Outcome
run c lent scales norm = resident (record { head = head_at manifest; codes = lent; scales = 2; norms = 2 }) codes scales (pos 16129 ∷ norm ∷ []) c

-- rows as they were built
abbrev plain : Call → Outcome
plain c = run c 4 (one ∷ one ∷ []) (pos 16129)

-- row 0 with a scale of 2^1000, row 1 with a wrong norm
abbrev spoilt : Call → Outcome
spoilt c = run c 4 (fin false 1 (pos 1000) ∷ one ∷ []) (pos 7)

-- another dimension; an id of row 1 that does not rise; an id of the record of row 1 that is not the entry's
abbrev wide : List ℕ
wide = set manifest 24 3

abbrev unordered : List ℕ
unordered = set manifest 94 1

abbrev damaged : List ℕ
damaged = set segments 20 3

-- "generation 3 sequence 7 eligible 2 measured 1 complete 1 approximate 1", then "1 1 3fb0000000000000 0"; "With limit 2 that line is
-- `1 2 0000000000000000 1`"
pub record Example : Type 0 where
  pub report_1 : (outcome 1).report ≡ record { generation = 3; sequence = 7; eligible = 2; measured = 1; complete = true; approximate = true; count = 1 }
  pub answers_1 : slices (outcome 1) ≡ (1 ∷ 9 ∷ []) ∷ (0x3fb0000000000000 ∷ 0x3ff0000000000000 ∷ []) ∷ (0 ∷ 9 ∷ []) ∷ (20 ∷ 9 ∷ []) ∷ (0 ∷ 9 ∷ []) ∷ []
  pub work_1 : (outcome 1).work ≡ record { keys = 0 ∷ 0 ∷ 0 ∷ []; rows = 0 ∷ 0 ∷ 0 ∷ []; ids = [] }
  pub agreement_1 : agreement 1 ≡ 0
  pub report_2 : (outcome 2).report ≡ record { generation = 3; sequence = 7; eligible = 2; measured = 2; complete = true; approximate = false; count = 1 }
  pub answers_2 : slices (outcome 2) ≡ (2 ∷ 9 ∷ []) ∷ (0 ∷ 0x3ff0000000000000 ∷ []) ∷ (1 ∷ 9 ∷ []) ∷ (40 ∷ 9 ∷ []) ∷ (0 ∷ 9 ∷ []) ∷ []
  pub agreement_2 : agreement 2 ≡ 1
  pub cached_1 : in_cache 1 ≡ outcome 1
  -- limit 0 is under k, and 65,537 too large
  pub refused_0 : (outcome 0).refusal ≡ refused 18 0
  pub refused_65537 : (outcome 65537).refusal ≡ refused 18 0
  -- row 1, which limit 1 does not list, comes before row 0, which it lists: a limit of one less than the eligible count is not enough
  pub before_0 : by_original manifest segments (call 1).query 1 0 ≡ true
  -- ids that repeat or are unknown: one row
  pub ids-report : (plain (other manifest segments (only (2 ∷ 7 ∷ 2 ∷ [])) 2 2)).report ≡ record { generation = 3; sequence = 7; eligible = 1; measured = 1; complete = true; approximate = false; count = 1 }
  pub ids-list : (plain (other manifest segments (only (2 ∷ 7 ∷ 2 ∷ [])) 2 2)).answers.ids ≡ 2 ∷ 9 ∷ []
  -- an id that is wanted and not allowed is not eligible
  pub allowed-list : (plain (other_for (λ id. eqb id 2) manifest segments (only (1 ∷ 2 ∷ [])) 2 2)).answers.ids ≡ 2 ∷ 9 ∷ []
  -- the order: head before 17, 17 before 18, 18 before 20, 20 before an entry
  pub head_first : (plain (other wide segments every 10001 0)).refusal ≡ refused 21 0
  pub most-next : (plain (other manifest segments every 10001 0)).refusal ≡ refused 17 0
  pub limit-next : (plain (other unordered segments (only (1 ∷ 2 ∷ 3 ∷ 4 ∷ [])) 1 0)).refusal ≡ refused 18 0
  pub room_next : (plain (other unordered segments (only (1 ∷ 2 ∷ 3 ∷ 4 ∷ [])) 1 1)).refusal ≡ refused 20 0
  pub room-leaves : (plain (other unordered segments (only (1 ∷ 2 ∷ 3 ∷ 4 ∷ [])) 1 1)).work.ids ≡ 9 ∷ 9 ∷ 9 ∷ []
  -- an entry, also with k = 0; then the working slices are zero
  pub entry_next : (plain (other unordered segments every 0 0)).refusal ≡ refused 21 1
  pub entry_clears : (plain (other unordered segments every 0 0)).work.ids ≡ 0 ∷ 0 ∷ 0 ∷ []
  -- k = 0 looks neither at lengths nor at rows nor at records
  pub zero_answers : (run (other manifest damaged every 0 2) 5 (one ∷ one ∷ []) (pos 7)).report ≡ record { generation = 3; sequence = 7; eligible = 2; measured = 0; complete = true; approximate = false; count = 0 }
  -- a length, at 0; row by row 21, then 22, of eligible rows only
  pub length_next : (run (other manifest segments every 1 1) 5 (one ∷ one ∷ []) (pos 7)).refusal ≡ refused 21 0
  pub row_21 : (run (other manifest segments every 1 1) 4 (one ∷ one ∷ []) (pos 7)).refusal ≡ refused 21 1
  pub row_22 : (spoilt (other manifest segments every 1 1)).refusal ≡ refused 22 0
  pub row-passed-over : (spoilt (other manifest segments (only (2 ∷ [])) 1 1)).refusal ≡ refused 21 1
  -- 23 of candidates only; of all eligible rows for the agreement, which then leaves the answer slices
  pub record_unseen : (plain (other manifest damaged every 1 1)).answers.ids ≡ 1 ∷ 9 ∷ []
  pub record_23 : (plain (other manifest damaged every 1 2)).refusal ≡ refused 23 1
  -- by rising row, also where row 1 is the nearer candidate
  pub rising_23 : (run (other manifest (set damaged 0 9) every 1 2) 4 (fin false 1 (pos 1) ∷ one ∷ []) (pos 16129)).refusal ≡ refused 23 0
  pub agreement_23 : (agreement_resident state codes (one ∷ one ∷ []) (pos 16129 ∷ pos 16129 ∷ []) (other manifest damaged every 1 1)).refusal ≡ refused 23 1
  pub agreement-leaves : (agreement_resident state codes (one ∷ one ∷ []) (pos 16129 ∷ pos 16129 ∷ []) (other manifest damaged every 1 1)).answers.ids ≡ 9 ∷ 9 ∷ []
