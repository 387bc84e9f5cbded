-- The limit theorem over definitions: demand 3, as far as it speaks of the limit, for rows with any distances and ids and any approximate order.
use Rattle.std.specs.Prelude.{◌≡◌, Bool, true, List, ℕ, ◌≤◌, ◌<◌, min, length, get_or, Float}
use Rattle.rank.specs.Sort.{◌∈◌, Pairwise, Distinct, TotalOrder, Least}
use Rattle.rank.specs.Order.{by_distance}
use Rattle.rank.specs.Limit.{listed, LimitTheorem}

-- "Library, rows, query, k and eligible strokes fixed": the original distances and ids of rows, their approximate order, and the eligible rows
module _ (distance : ℕ → Float) (id : ℕ → ℕ) (near : ℕ → ℕ → Bool) (eligible : List ℕ) where
  abbrev le : ℕ → ℕ → Bool
  le = by_distance distance id

  -- the list for k and a limit
  abbrev list : ℕ → ℕ → List ℕ
  list = listed near le eligible

  pub record Limits : Type 0 where
    -- "with a larger candidate limit each place of the list holds the same stroke or one earlier by (original distance, id)"; a limit under k is 18
    pub better : (k small large i : ℕ) → k ≤ small → small ≤ large → i < min k (length eligible)
        → le (get_or (list k large) i 0) (get_or (list k small) i 0) ≡ true
    -- "and no true nearest stroke is lost": the true nearest are the k least of all eligible rows
    pub keeps : (k small large : ℕ) (l : List ℕ) → small ≤ large → Least le k eligible l → (r : ℕ) → r ∈ l → r ∈ list k small → r ∈ list k large
    -- "from limit ≥ eligible on the list is exact"
    pub whole : (k limit : ℕ) → length eligible ≤ limit → Least le k eligible (list k limit)
    -- what `LimitTheorem` says beside these: what the list is, that there is but one exact list, and that a larger limit lists no fewer of its rows
    pub all : LimitTheorem near le eligible

pub record Limit : Type 0 where
  -- for eligible rows in rising order whose ids rise with them, as a manifest's do. Nothing is asked of the approximate order, nor of the
  -- distances: a NaN comes last
  pub by_distances : (distance : ℕ → Float) (id : ℕ → ℕ) (near : ℕ → ℕ → Bool) (eligible : List ℕ)
      → Pairwise ◌<◌ eligible → ((r s : ℕ) → r ∈ eligible → s ∈ eligible → r < s → id r < id s)
      → Limits distance id near eligible
  -- for any total order in place of (original distance, id), and rows in whatever order, each once
  pub by_order : (near le : ℕ → ℕ → Bool) → TotalOrder le → (eligible : List ℕ) → Distinct eligible → LimitTheorem near le eligible
