-- Where the lengths of resident slices hold, the rows have room.
use mathlib.Core.Path.{◌≡◌}
use mathlib.Core.Bool.{true, ◌&&◌}
use Prim.Native.Nat.{ℕ, ◌*◌, ◌≤◌}
use lib.Dec.{leb, eqb}
use borrow.Author.Tests.{leb-true}
use Rattle.format.proofs.Heads.{both}
use Rattle.resident.specs.Build.{resident_lengths_ok, resident_room_ok}
use Rattle.resident.specs.declared.ResidentState.{ResidentState}

pub lengths_passed : (state : ResidentState) (rows dimensions codes scales norms : ℕ) → resident_lengths_ok state rows dimensions codes scales norms ≡ true
    → (rows * dimensions ≤ codes) × (rows ≤ scales) × (rows ≤ norms)
unfolding resident_lengths_ok
lengths_passed state rows dimensions codes scales norms h =
    let r = (both {a = eqb codes state.codes && eqb scales state.scales && eqb norms state.norms} {b = resident_room_ok rows dimensions codes scales norms} h).1 in
    let s = both {a = leb (rows * dimensions) codes && leb rows scales} {b = leb rows norms} r in
    let t = both {a = leb (rows * dimensions) codes} {b = leb rows scales} s.0 in
    (leb-true (rows * dimensions) codes t.0, leb-true rows scales t.1, leb-true rows norms s.1)
