-- How the scratch holds the rows in order: one number a row, the digits of its segment before those of its offset, and these before its
-- own, so that the order of the numbers is the order by segment and offset. For rows whose entries keep their rules.
use Rattle.std.specs.Prelude.{◌≡◌, true, cond, List, [], ◌∷◌, ◌++◌, map, ℕ, suc, ◌+◌, ◌*◌, ◌/◌, ◌%◌, ◌^◌, ◌≤◌, ◌<◌, eqb, length, get_or, take, drop}
use Rattle.format.specs.Fields.{rows_of, segment_at, offset_at}
use Rattle.format.specs.Head.{head_number}
use Rattle.entries.specs.Plan.{rows_ok}
use Rattle.manifest.specs.Tiling.{physical}

unfoldable pub key : List ℕ → ℕ → ℕ
key m r = (segment_at m r * 2 ^ 26 + offset_at m r) * 2 ^ 20 + r

unfoldable pub key_segment : ℕ → ℕ
key_segment k = k / 2 ^ 46

unfoldable pub key_row : ℕ → ℕ
key_row k = k % 2 ^ 20

-- the rows in the order of their records
abbrev pub row_keys : List ℕ → List ℕ
row_keys m = map (key m) (physical m)

-- and what stood past them
abbrev pub ordered : List ℕ → List ℕ → List ℕ
ordered m t = row_keys m ++ drop (rows_of m) t

-- how many numbers from the first on are of segment n
unfoldable pub run : ℕ → List ℕ → ℕ
run n [] = 0
run n (k ∷ ks) = cond (eqb (key_segment k) n) (suc (run n ks)) 0

-- each number's row is below n
pub record Below (n : ℕ) (ks : List ℕ) : Type 0 where
  pub at : (i : ℕ) → i < length ks → key_row (get_or ks i 0) < n

-- the scratch of an accepted manifest begins with its rows in order
pub record Filled (m t : List ℕ) : Type 0 where
  pub head : head_number m ≡ 0
  pub rows : rows_ok m ≡ true
  pub room : rows_of m ≤ length t
  pub order : take (rows_of m) t ≡ row_keys m
