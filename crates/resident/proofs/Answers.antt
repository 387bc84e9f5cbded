-- What building answers, by the numbers of its tests.
use mathlib.Core.Path.{◌≡◌, sym, ap}
use mathlib.Core.Bool.{true}
use mathlib.Core.List.{List}
use Prim.Native.Nat.{ℕ, ◌*◌, ◌≤◌}
use lib.Dec.{leb}
use lib.IntN.{ℤ}
use lib.Ieee.{Float}
use borrow.Author.Tests.{leb-true}
use Rattle.le.proofs.Chain.{held}
use Rattle.config.proofs.Refusals.{not_zero, goes_on, stops, none-refused, is-other, Plain, plain_or}
use Rattle.std.specs.Prelude.{Result}
use Rattle.std.specs.Result.{IsErrAnd}
use Rattle.std.proofs.lemmas.Result.{err_from_is_err_and}
use Rattle.config.specs.Told.{number_of, told}
use Rattle.config.specs.declared.Refused.{Refused}
use Rattle.config.proofs.Numbers.{some_number}
use Rattle.config.specs.Refusal.{Refusal, none, refused, refused_or}
use Rattle.format.specs.Fields.{dimensions_of, rows_of}
use Rattle.format.proofs.Heads.{both}
use Rattle.cache_format.specs.Sizing.{codes_ok}
use Rattle.manifest.specs.Check.{manifest_number}
use Rattle.resident.specs.Build.{resident_room_ok, resident_room_number, planned_refusal, build_refusal, codes_upto, scales_upto, norms_upto, codes_after, scales_after, norms_after}
use Rattle.encoded_rows.specs.Rows.{lowest_bad, bad_record_refusal}
use Rattle.encoded_rows.proofs.Written.{none-bad, records-plain}

-- ---- on a refusal the slices stay
pub slices-kept : (levels : ℕ) (mids : List Float) (m s : List ℕ) (r : Refusal) → (r.number ≡ 0 → ⊥) → (codes : List ℤ) (scales : List Float) (norms : List ℤ)
    → (codes ≡ codes_after levels mids m s r codes) × (scales ≡ scales_after levels mids m s r scales) × (norms ≡ norms_after levels mids m s r norms)
slices-kept levels mids m s r h codes scales norms = (
  sym (is-other r (codes_upto levels mids m s (rows_of m) codes) codes h),
  sym (is-other r (scales_upto levels mids m s (rows_of m) scales) scales h),
  sym (is-other r (norms_upto levels mids m s (rows_of m) norms) norms h),
)

-- the same at the exit of a `?`
pub slices_stay : {A : Type 0} (Q : Refused → Type 0) (r : Result A Refused) → IsErrAnd r Q
    → (levels : ℕ) (mids : List Float) (m s : List ℕ) (codes : List ℤ) (scales : List Float) (norms : List ℤ)
    → (codes ≡ codes_after levels mids m s (told r) codes) × (scales ≡ scales_after levels mids m s (told r) scales) × (norms ≡ norms_after levels mids m s (told r) norms)
slices_stay Q r h levels mids m s codes scales norms =
    let p = err_from_is_err_and r h in
    rw p.1 (slices-kept levels mids m s (refused (number_of p.0.number) p.0.place) (some_number p.0.number) codes scales norms)

-- ---- the manifest's number, then the plan's refusal
module _ (m : List ℕ) (expected room : ℕ) (s : List ℕ) (codes scales norms : ℕ) where
  pub refused-first : (manifest_number m expected room ≡ 0 → ⊥) → refused (manifest_number m expected room) 0 ≡ build_refusal m expected room s codes scales norms
  unfolding build_refusal
  refused-first n = sym (stops (manifest_number m expected room) (planned_refusal m s codes scales norms) n)

  pub refused-next : manifest_number m expected room ≡ 0 → planned_refusal m s codes scales norms ≡ build_refusal m expected room s codes scales norms
  unfolding build_refusal
  refused-next e = sym (goes_on (manifest_number m expected room) (planned_refusal m s codes scales norms) e)

-- ---- nothing is refused
pub room-is : (rows dimensions codes scales norms : ℕ) → resident_room_ok rows dimensions codes scales norms ≡ true → (rows * dimensions ≤ codes) × (rows ≤ scales) × (rows ≤ norms)
room-is rows dimensions codes scales norms h =
    let b = both {b = leb rows norms} h in
    let d = both {a = leb (rows * dimensions) codes} {b = leb rows scales} b.0 in
    (leb-true (rows * dimensions) codes d.0, leb-true rows scales d.1, leb-true rows norms b.1)

room-held : (rows dimensions codes scales norms : ℕ) → resident_room_number rows dimensions codes scales norms ≡ 0 → resident_room_ok rows dimensions codes scales norms ≡ true
unfolding resident_room_number
room-held rows dimensions codes scales norms h =
    let a = held (codes_ok rows dimensions) not_zero h in
    (held (resident_room_ok rows dimensions codes scales norms) not_zero a.1).0

pub planned_none : (m s : List ℕ) (codes scales norms : ℕ) → (planned_refusal m s codes scales norms).number ≡ 0
    → (lowest_bad m s ≡ rows_of m) × (resident_room_ok (rows_of m) (dimensions_of m) codes scales norms ≡ true)
unfolding planned_refusal
planned_none m s codes scales norms h =
    let n = none-refused (resident_room_number (rows_of m) (dimensions_of m) codes scales norms) (bad_record_refusal m s) h in
    (none-bad m s n.1, room-held (rows_of m) (dimensions_of m) codes scales norms n.0)

-- the same, as the tests answer it
pub may_fill : (m s : List ℕ) (codes scales norms : ℕ) → none ≡ planned_refusal m s codes scales norms
    → (lowest_bad m s ≡ rows_of m) × ((rows_of m * dimensions_of m ≤ codes) × (rows_of m ≤ scales) × (rows_of m ≤ norms))
may_fill m s codes scales norms e =
    let p = planned_none m s codes scales norms (sym (ap (λ (r : Refusal). r.number) e)) in (p.0, room-is (rows_of m) (dimensions_of m) codes scales norms p.1)

-- number 0 is no refusal
pub built-none : (m : List ℕ) (expected room : ℕ) (s : List ℕ) (codes scales norms : ℕ) → Plain (build_refusal m expected room s codes scales norms)
unfolding build_refusal planned_refusal
built-none m expected room s codes scales norms =
    let n = resident_room_number (rows_of m) (dimensions_of m) codes scales norms in
    plain_or (manifest_number m expected room) (refused_or n (bad_record_refusal m s)) (plain_or n (bad_record_refusal m s) (records-plain m s))
