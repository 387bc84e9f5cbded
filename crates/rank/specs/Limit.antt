-- The lists of document 01, The report, over row numbers: "Candidates are the min(limit, eligible) least by approximate
-- order; the list is the min(k, eligible) least of those by original order." And what holds of them at two limits:
-- "In demand 3, .. A search succeeds when no check refuses it, and then reports and lists what is defined above."
use Rattle.std.specs.Prelude.{◌≡◌, Bool, true, false, cond, ◌||◌, List, [], ◌∷◌, ℕ, suc, ◌≤◌, ◌<◌, min, leb, eqb, length, get_or}
use Rattle.rank.specs.Sort.{◌∈◌, least, Least}

-- row r is row s or comes before it: by the key, and where the keys are equal by the row. Document 01, The arithmetic:
-- "Order: IEEE 754 totalOrder on distance, then id." The key is the distance's; ids rise with rows.
unfoldable pub by_key : (ℕ → ℕ) → ℕ → ℕ → Bool
by_key key r s = cond (eqb (key r) (key s)) (leb r s) (leb (key r) (key s))

unfoldable pub among : ℕ → List ℕ → Bool
among x [] = false
among x (y ∷ ys) = eqb x y || among x ys

-- how many of xs are among ys, wherever they stand there
unfoldable pub shared : List ℕ → List ℕ → ℕ
shared [] ys = 0
shared (x ∷ xs) ys = cond (among x ys) (suc (shared xs ys)) (shared xs ys)

-- `near` is the approximate order, `le` the original one
module _ (near le : ℕ → ℕ → Bool) (eligible : List ℕ) where
  -- Document 01, The report: the min(limit, eligible) least by approximate order
  unfoldable pub candidates : ℕ → List ℕ
  candidates L = least near L eligible

  -- the min(k, eligible) least of those by original order
  unfoldable pub listed : ℕ → ℕ → List ℕ
  listed k L = least le k (candidates L)

  -- "the list over all eligible records"
  unfoldable pub exact : ℕ → List ℕ
  exact k = least le k eligible

  -- demand 3, as far as it speaks of the limit
  pub record LimitTheorem : Type 0 where
    pub listed_are : (k L : ℕ) → Least le k (candidates L) (listed k L)
    pub exact_are : (k : ℕ) → Least le k eligible (exact k)
    pub exact-only : (k : ℕ) (l : List ℕ) → Least le k eligible l → l ≡ exact k
    pub size : (k L : ℕ) → k ≤ L → length (listed k L) ≡ min k (length eligible)
    pub within : (k L r : ℕ) → r ∈ listed k L → r ∈ eligible
    -- with as many candidates as eligible rows the list is exact
    pub whole : (k L : ℕ) → length eligible ≤ L → listed k L ≡ exact k
    -- with more candidates each place has the same row or an earlier one,
    pub better : (k L₁ L₂ i : ℕ) → k ≤ L₁ → L₁ ≤ L₂ → i < min k (length eligible)
        → le (get_or (listed k L₂) i 0) (get_or (listed k L₁) i 0) ≡ true
    -- no row of the exact list is lost,
    pub keeps : (k L₁ L₂ r : ℕ) → L₁ ≤ L₂ → r ∈ exact k → r ∈ listed k L₁ → r ∈ listed k L₂
    -- and no fewer of the exact list's rows are listed
    pub agrees : (k L₁ L₂ : ℕ) → L₁ ≤ L₂ → shared (exact k) (listed k L₁) ≤ shared (exact k) (listed k L₂)
