-- Between functions: what they promise one another. No contract of an entry and no theorem rests on this file.
-- The candidates by original distance (document 01, What each place turns away: "and last, by rising row of the candidates, 23 then 24";
-- The report: "the list is the min(k, eligible) least of those by original order", "`original_distance_computations` equals the count of
-- records measured by the definition").
use Rattle.std.specs.Prelude.{◌≡◌, Bool, true, ◌&&◌, List, [], ◌∷◌, map, ℕ, ◌+◌, ◌≤◌, ◌<◌, Float, length, get_or, set, Option, Some, Result}
use Rattle.std.specs.Float.{nan}
use Rattle.std.specs.Float.Ieee.Scale.{finite}
use Rattle.float.specs.Order.{keyed}
use Rattle.rank.specs.Sort.{sort}
use Rattle.config.specs.Refusal.{Refusal, unless_refused}
use Rattle.config.specs.Told.{told, granted}
use Rattle.config.specs.declared.Refused.{Refused}
use Rattle.format.specs.Order.{first_refusal}
use Rattle.search_spec.specs.Lists.{original_at, by_original}
use Rattle.search_spec.specs.Scan.{record_refusal, records_refusal}

-- ---- four of some rows, from place i on: whether all pass a test, whether four distances are finite, and the keys of four stored
abbrev pub all_four : (ℕ → Bool) → List ℕ → ℕ → Bool
all_four ok rows i = ok (get_or rows i 0) && ok (get_or rows (i + 1) 0) && ok (get_or rows (i + 2) 0) && ok (get_or rows (i + 3) 0)

abbrev pub all_finite : List Float → Bool
all_finite x = finite (get_or x 0 nan) && finite (get_or x 1 nan) && finite (get_or x 2 nan) && finite (get_or x 3 nan)

abbrev pub keys_set : List ℕ → ℕ → List Float → List ℕ
keys_set ks i x = set (set (set (set ks i (keyed (get_or x 0 nan))) (i + 1) (keyed (get_or x 1 nan))) (i + 2) (keyed (get_or x 2 nan))) (i + 3) (keyed (get_or x 3 nan))

-- a refusal, or how many records were measured
pub record RerankOutcome : Type 0 where
  pub refusal : Refusal
  pub measured : ℕ

-- what the code answers
abbrev pub reranked : Result ℕ Refused → RerankOutcome
reranked r = record { refusal = told r; measured = granted 0 r }

-- the records that the manifest m places in the segments s, against the query q
module _ (m s : List ℕ) (q : List Float) where
  -- the order key of the distance
  unfoldable pub key_at : ℕ → ℕ
  key_at r = keyed (original_at m s q r)

  -- the distances of four rows from place i on
  abbrev pub originals : List ℕ → ℕ → List Float
  originals rows i =
      original_at m s q (get_or rows i 0) ∷ original_at m s q (get_or rows (i + 1) 0) ∷ original_at m s q (get_or rows (i + 2) 0) ∷ original_at m s q (get_or rows (i + 3) 0) ∷ []

  -- four rows from place i on: their distances, where all are measured
  pub record FourIs (rows : List ℕ) (i : ℕ) (r : Option (List Float)) : Type 0 where
    pub room : {x : List Float} → r ≡ Some x → i + 4 ≤ length rows
    pub passed : {x : List Float} → r ≡ Some x → (j : ℕ) → i ≤ j → j < i + 4 → (record_refusal m s q (get_or rows j 0)).number ≡ 0
    pub values : {x : List Float} → r ≡ Some x → (x ≡ originals rows i) × (all_finite x ≡ true)

  -- rows measured in their order: r is returned, and ks holds their keys
  pub record MeasureIs (rows : List ℕ) (r : RerankOutcome) (ks : List ℕ) : Type 0 where
    pub refusal : r.refusal ≡ first_refusal (λ i. record_refusal m s q (get_or rows i 0)) (length rows)
    pub measured : r.measured ≡ unless_refused r.refusal (length rows) 0
    pub keys : r.refusal.number ≡ 0 → ks ≡ map key_at rows

  -- candidates, whose rows come in any order: r is returned, and rs and ks hold them and their keys by original order
  pub record RerankIs (candidates : List ℕ) (r : RerankOutcome) (ks rs : List ℕ) : Type 0 where
    pub refusal : r.refusal ≡ records_refusal m s q candidates
    pub measured : r.measured ≡ unless_refused (records_refusal m s q candidates) (length candidates) 0
    pub rows : r.refusal.number ≡ 0 → rs ≡ sort (by_original m s q) candidates
    pub keys : r.refusal.number ≡ 0 → ks ≡ map key_at (sort (by_original m s q) candidates)
