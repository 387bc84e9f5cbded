-- What a call that has passed the tests up to 20 brings.
use mathlib.Core.Path.{◌≡◌, refl, sym}
use mathlib.Core.Bool.{Bool, true, false}
use mathlib.Core.List.{List, []}
use Prim.Native.Nat.{ℕ, ◌≤◌, min}
use lib.ListN.{length}
use Rattle.format.specs.Fields.{rows_of}
use Rattle.format.specs.Head.{lengths_ok}
use Rattle.format.specs.declared.Head.{Head}
use Rattle.format.proofs.Same.{same_parts}
use Rattle.search_spec.specs.Lent.{Call, handed, work_of}
use Rattle.search_spec.specs.Tests.{room_of, front_number}
use Rattle.search_spec.proofs.Passed.{front}
use Rattle.ranked.specs.Ends.{Fits}
use Rattle.ranked.proofs.Found.{fits-room, ids-room, fits-other}

module _ (head : Head) (c : Call) (z : front_number head c ≡ 0) where
  pub lengths-hold : lengths_ok c.manifest ≡ true
  lengths-hold = (same_parts c.manifest head (front head c z).same).2

  pub ids-fit : handed c.wanted ≤ length c.work.ids
  ids-fit = ids-room (rows_of c.manifest) c.k c.limit (handed c.wanted) (room_of c.answers c.work) (front head c z).room

  pub rest-fits : {m : List ℕ} {rows : ℕ} → m ≡ c.manifest → rows ≡ rows_of m → Fits (min c.k rows) (min c.limit rows) (room_of c.answers (work_of c.work.keys c.work.rows []))
  rest-fits e p =
      rw (p, e) (fits-other c.answers c.work.keys c.work.rows c.work.ids [] (fits-room (rows_of c.manifest) c.k c.limit (handed c.wanted) (room_of c.answers c.work) (front head c z).room))

-- rows that are there are long enough
pub long_enough : {b : Bool} → (b ≡ false → true ≡ false) → b ≡ true
long_enough {b = true} h = refl
long_enough {b = false} h = sym (h refl)
