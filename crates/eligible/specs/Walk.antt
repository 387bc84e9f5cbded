-- Between functions: what they promise one another. No contract of an entry and no theorem rests on this file.
-- The ids in order, and a cursor in them that goes along the rows. Who is eligible
-- is search_spec's.
use Rattle.std.specs.Prelude.{◌≡◌, List, [], ℕ, ◌+◌, ◌≤◌, ◌<◌, leb, length, get_or}
use Rattle.rank.specs.Sort.{sort, Ascending}
use Rattle.rank.specs.Limit.{among}
use Rattle.format.specs.Fields.{rows_of, id_at}
use Rattle.search_spec.specs.Lent.{Wanted, every, only, everyone}
use Rattle.search_spec.specs.Lists.{is_eligible}
use Rattle.eligible.specs.declared.Found.{Found}

-- the ids as a cursor goes along them
abbrev pub ids_of : Wanted → List ℕ
ids_of every = []
ids_of (only ids) = ids

-- the ids handed in, sorted, repeats with them
abbrev pub in_order : Wanted → Wanted
in_order every = every
in_order (only ids) = only (sort leb ids)

-- what stands at the front of the id slice: nothing where every id is wanted
abbrev pub sorted_ids : Wanted → List ℕ
sorted_ids wanted = ids_of (in_order wanted)

abbrev pub Sorted : Wanted → Type 0
Sorted wanted = Ascending leb (ids_of wanted)

-- all before the cursor are below the id
pub record Behind (s : List ℕ) (cursor id : ℕ) : Type 0 where
  pub fits : cursor ≤ length s
  pub below : (i : ℕ) → i < cursor → get_or s i 0 < id

-- whether the id is among s, and a cursor for any greater id
pub record Stepped (s : List ℕ) (id : ℕ) (r : Found) : Type 0 where
  pub is : r.eligible ≡ among id s
  pub behind : Behind s r.cursor id

-- all before the cursor are below the ids of the row and of all later rows
pub record CursorAt (m s : List ℕ) (cursor row : ℕ) : Type 0 where
  pub fits : cursor ≤ length s
  pub below : (i r : ℕ) → i < cursor → row ≤ r → r < rows_of m → get_or s i 0 < id_at m r

-- whether the row is eligible, and a cursor for the next row
pub record Turned (m : List ℕ) (wanted : Wanted) (row : ℕ) (r : Found) : Type 0 where
  pub is : r.eligible ≡ is_eligible wanted everyone m row
  pub next : CursorAt m (ids_of wanted) r.cursor (row + 1)
