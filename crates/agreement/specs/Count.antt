-- Between functions: what they promise one another. No contract of an entry and no theorem rests on this file.
-- The agreement count (document 01, The report: "an agreement count: the number of places at which the list and the list over all eligible
-- records hold the same id. It is its own call, refusing as a search does, 23 and 24 over all eligible rows"; readings R27). Rows stand for
-- their ids.
use Rattle.std.specs.Prelude.{◌≡◌, Bool, true, false, cond, List, map, ℕ, suc, ◌≤◌, ◌<◌, leb, ltb, eqb, Float, get_or, Result}
use Rattle.rank.specs.Sort.{◌∈◌, Distinct, Ascending, sort}
use Rattle.rank.specs.Limit.{by_key}
use Rattle.rank.specs.Rows.{passing}
use Rattle.config.specs.Refusal.{Refusal, unless_refused}
use Rattle.config.specs.Told.{told, granted}
use Rattle.config.specs.declared.Refused.{Refused}
use Rattle.format.specs.Fields.{rows_of}
use Rattle.search_spec.specs.Scan.{records_refusal}
use Rattle.search_spec.specs.Outcome.{same_places}
use Rattle.rerank.specs.Rerank.{key_at}

-- ---- the steps of the count

-- the row, with its key, holds place i of a list with its keys, or comes before it
abbrev pub key_not_after : List ℕ → List ℕ → ℕ → ℕ → ℕ → Bool
key_not_after ks rs key row i = cond (eqb key (get_or ks i 0)) (leb row (get_or rs i 0)) (leb key (get_or ks i 0))

-- i is n or passes the test, and the place before it fails; where the test keeps passing once it has passed, i is the first of n to pass
pub record FirstIs (test : ℕ → Bool) (n i : ℕ) : Type 0 where
  pub fits : i ≤ n
  pub at : i < n → test i ≡ true
  pub after : (j : ℕ) → suc j ≡ i → test j ≡ false

-- of n places the first to pass, unless the row itself is there
pub record AheadIs (test : ℕ → Bool) (rs : List ℕ) (n row r : ℕ) : Type 0 where
  pub place : ℕ
  pub first : FirstIs test n place
  pub so : r ≡ cond (ltb place n) (cond (eqb (get_or rs place 0) row) n place) n

-- ---- the count

-- a refusal, or at how many places the lists agree
pub record Counted : Type 0 where
  pub refusal : Refusal
  pub agreement : ℕ

-- what the code answers
abbrev pub counted : Result ℕ Refused → Counted
counted r = record { refusal = told r; agreement = granted 0 r }

module _ (m s : List ℕ) (q : List Float) (eligible : ℕ → Bool) where
  -- all eligible rows by original distance and row
  abbrev pub all_ranked : List ℕ
  all_ranked = sort (by_key (key_at m s q)) (passing eligible (rows_of m))

  -- rs lists eligible rows by original distance and row, each once, and ks has their keys
  pub record Listed (ks rs : List ℕ) : Type 0 where
    pub keys : ks ≡ map (key_at m s q) rs
    pub up : Ascending (by_key (key_at m s q)) rs
    pub once : Distinct rs
    pub within : (r : ℕ) → r ∈ rs → r ∈ passing eligible (rows_of m)

  -- r is returned for the list rs
  pub record CountIs (rs : List ℕ) (r : Counted) : Type 0 where
    pub refusal : r.refusal ≡ records_refusal m s q (passing eligible (rows_of m))
    pub agreement : r.agreement ≡ unless_refused r.refusal (same_places rs all_ranked) 0
