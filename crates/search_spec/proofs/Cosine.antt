-- A second library, under cosine: two segments, metadata, rows whose approximate order is not their own, and records that do not lie in the
-- order of rows. Its calls are computed from the definitions.
use mathlib.Core.Path.{◌≡◌}
use mathlib.Core.Bool.{true, false}
use mathlib.Core.List.{List, [], ◌∷◌, ◌++◌, map}
use Prim.Native.Nat.{ℕ}
use lib.IntN.{ℤ, pos}
use lib.ListN.{set, replicate, drop}
use lib.Ieee.{Float, inf, fin}
use Rattle.le.specs.Le.{bytes}
use Rattle.float.specs.Values.{plus_zero, one, two}
use Rattle.config.specs.Refusal.{none, refused}
use Rattle.quantization.specs.View.{row_bytes}
use Rattle.format.specs.Fields.{magic}
use Rattle.format.specs.Head.{head_at}
use Rattle.quantized_cache.specs.declared.CacheState.{CacheState}
use Rattle.resident.specs.declared.ResidentState.{ResidentState}
use Rattle.search_spec.specs.declared.Report.{Report}
use Rattle.search_spec.specs.Lent.{Wanted, every, only, Call, everyone}
use Rattle.search_spec.specs.Outcome.{Agreed, Outcome, returned, returned_count}
use Rattle.search_spec.specs.Kept.{cached_rows, resident_rows, cached, resident, agreement_resident}
use Rattle.search_spec.proofs.Example.{slices}

-- row 0 lies behind row 2 in segment 1, row 1 in segment 0
abbrev manifest : List ℕ
manifest =
    magic ++ bytes 8 4 ++ bytes 8 9 ++ bytes 4 2 ++ bytes 4 16 ++ bytes 4 200 ++ bytes 8 0 ++ 1 ∷ bytes 4 1 ++ 109 ∷ bytes 4 2 ++ bytes 8 3
    ++ bytes 8 26 ++ bytes 4 0 ++ bytes 8 48 ++ bytes 4 0
    ++ bytes 8 5 ++ bytes 4 1 ++ bytes 4 21 ++ bytes 4 3
    ++ bytes 8 8 ++ bytes 4 0 ++ bytes 4 0 ++ bytes 4 2
    ++ bytes 8 9 ++ bytes 4 1 ++ bytes 4 0 ++ bytes 4 1
    ++ bytes 4 0

-- (1, 1) with two bytes; (1, 0) with one, (0, 1) with three
abbrev segments : List ℕ
segments =
    bytes 8 8 ++ bytes 4 2 ++ bytes 4 0x3f800000 ++ bytes 4 0x3f800000 ++ 195 ∷ 169 ∷ bytes 4 0
    ++ bytes 8 9 ++ bytes 4 1 ++ bytes 4 0x3f800000 ++ bytes 4 0 ++ 97 ∷ bytes 8 5 ++ bytes 4 3 ++ bytes 4 0 ++ bytes 4 0x3f800000 ++ 98 ∷ 99 ∷ 100 ∷ bytes 4 0

-- with segments, ids, a query, k and limit
abbrev call : List ℕ → Wanted → List Float → ℕ → ℕ → Call
call s wanted query k limit =
    record {
      manifest = manifest;
      segments = s;
      wanted = wanted;
      allowed = everyone;
      query = query;
      k = k;
      limit = limit;
      answers = record { ids = 7 ∷ 7 ∷ 7 ∷ []; distances = two ∷ two ∷ two ∷ []; rows = 7 ∷ 7 ∷ 7 ∷ []; starts = 7 ∷ 7 ∷ 7 ∷ []; lengths = 7 ∷ 7 ∷ 7 ∷ [] };
      work = record { keys = 7 ∷ 7 ∷ 7 ∷ []; rows = 7 ∷ 7 ∷ 7 ∷ []; ids = 7 ∷ [] };
    }

-- the query (4, 1): row 2 is the nearest, row 0 the farthest; of row 1 it shows that the query's inverse norm is the first factor
abbrev query : List Float
query = fin false 4 (pos 0) ∷ one ∷ []

abbrev near : List ℕ → Wanted → ℕ → ℕ → Call
near s wanted k limit = call s wanted query k limit

-- the encoder's codes and norms, with one norm more than rows; the scales have no part in cosine
abbrev codes : List ℤ
codes = pos 0 ∷ pos 127 ∷ pos 127 ∷ pos 127 ∷ pos 127 ∷ pos 0 ∷ []

abbrev scales : List Float
scales = replicate 3 one

abbrev norms : List ℤ
norms = pos 16129 ∷ pos 32258 ∷ pos 16129 ∷ pos 7 ∷ []

-- a state, by the lengths of the slices, and one of a cache
abbrev state : ℕ → ℕ → ℕ → ResidentState
state codes scales norms = record { head = head_at manifest; codes = codes; scales = scales; norms = norms }

abbrev cache_state : ℕ → CacheState
cache_state cache = record { head = head_at manifest; cache = cache }

abbrev search : Call → Outcome
search c = resident (state 6 3 4) codes scales norms c

abbrev agreement : Call → Agreed
agreement c = returned_count (agreement_resident (state 6 3 4) codes scales norms c)

-- the same rows in a cache, with 5 bytes before them and 4 after
abbrev cache : List ℕ
cache =
    let row : ℤ → ℤ → ℤ → List ℕ = λ norm x y. row_bytes (record { scale = one; norm = norm; codes = x ∷ y ∷ [] }) in
    replicate 5 0 ++ row (pos 16129) (pos 0) (pos 127) ++ row (pos 32258) (pos 127) (pos 127) ++ row (pos 16129) (pos 127) (pos 0) ++ replicate 4 0

-- ids of the records of rows 1 and 2, and of row 0, that are not the entries'
abbrev nearer : List ℕ
nearer = set (set segments 0 6) 26 6

abbrev farther : List ℕ
farther = set segments 47 6

-- no number of a report
abbrev zero_report : Report
zero_report = record { generation = 0; sequence = 0; eligible = 0; measured = 0; complete = false; approximate = false; count = 0 }

-- the answer slices with the two nearest rows
abbrev nearest : List (List ℕ)
nearest = (9 ∷ 8 ∷ 7 ∷ []) ∷ (0x3f9e92f6e5aa1c80 ∷ 0x3fc23dabfbc1b2ac ∷ 0x4000000000000000 ∷ []) ∷ (2 ∷ 1 ∷ 7 ∷ []) ∷ (46 ∷ 20 ∷ 7 ∷ []) ∷ (1 ∷ 2 ∷ 7 ∷ []) ∷ []

pub record Cosine : Type 0 where
  -- two of three rows, the nearest first
  pub report_2 : (search (near segments every 2 2)).report ≡ record { generation = 4; sequence = 9; eligible = 3; measured = 2; complete = true; approximate = true; count = 2 }
  pub answers_2 : slices (search (near segments every 2 2)) ≡ nearest
  -- a record that lies behind another of its segment
  pub answers_0 : slices (search (near segments (only (5 ∷ [])) 1 1)) ≡ (5 ∷ 7 ∷ 7 ∷ []) ∷ (0x3fe83d25edcb5439 ∷ 0x4000000000000000 ∷ 0x4000000000000000 ∷ []) ∷ (0 ∷ 7 ∷ 7 ∷ []) ∷ (67 ∷ 7 ∷ 7 ∷ []) ∷ (3 ∷ 7 ∷ 7 ∷ []) ∷ []
  -- k = 0, with a limit below the eligible count
  pub report_0 : (search (near segments every 0 1)).report ≡ record { generation = 4; sequence = 9; eligible = 3; measured = 0; complete = true; approximate = false; count = 0 }
  -- 16, before 17: a zero query, one of another count, one that is not finite; a refused report
  pub zero_16 : returned (search (call segments every (plus_zero ∷ plus_zero ∷ []) 10001 1)) ≡ record { refusal = refused 16 0; report = zero_report }
  pub count_16 : (search (call segments every (one ∷ []) 1 1)).refusal ≡ refused 16 0
  pub infinite_16 : (search (call segments every (one ∷ inf false ∷ []) 1 1)).refusal ≡ refused 16 0
  -- the same of a cache
  pub cached_2 : slices (cached (cache_state 63) cache (near segments every 2 2)) ≡ nearest
  -- lengths as the state has them, other ones, and ones that the state has and that are under what the rows need
  pub lengths-held : (resident_rows manifest (state 6 3 4) codes scales norms).length_ok ≡ true
  pub lengths-other : map (λ s. (resident_rows manifest s codes scales norms).length_ok) (state 7 3 4 ∷ state 6 4 4 ∷ state 6 3 3 ∷ []) ≡ replicate 3 false
  pub codes-short : (resident_rows manifest (state 5 3 4) (drop 1 codes) scales norms).length_ok ≡ false
  pub scales-short : (resident_rows manifest (state 6 2 4) codes (drop 1 scales) norms).length_ok ≡ false
  pub norms-short : (resident_rows manifest (state 6 3 2) codes scales (drop 2 norms)).length_ok ≡ false
  pub cache-held : (cached_rows manifest (cache_state 58) (drop 5 cache)).length_ok ≡ true
  pub cache-other : (cached_rows manifest (cache_state 64) cache).length_ok ≡ false
  pub cache-short : (cached_rows manifest (cache_state 57) (drop 6 cache)).length_ok ≡ false
  pub length_21 : (resident (state 6 3 3) codes scales norms (near segments every 1 1)).refusal ≡ refused 21 0
  -- 23 by rising row of the candidates, whose order is another; a refused report
  pub rising_23 : returned (search (near nearer every 2 2)) ≡ record { refusal = refused 23 1; report = zero_report }
  -- a record that only the agreement call looks at
  pub farther_unseen : (search (near farther every 2 2)).refusal ≡ none
  pub agreement_23 : agreement (near farther every 2 2) ≡ record { refusal = refused 23 0; agreement = 0 }
  pub agreement_2 : agreement (near segments every 2 2) ≡ record { refusal = none; agreement = 2 }
