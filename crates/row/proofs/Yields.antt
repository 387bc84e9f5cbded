-- What a row's answer is, in the words of `refusal_of` and `value_of`, and what each of its cases says of the row.
use mathlib.Core.Path.{◌≡◌, refl, sym, ap}
use mathlib.Core.Bool.{Bool, true, false, not, cond, ◌&&◌, true≢false}
use Prim.Native.Nat.{ℕ}
use native.Mathlib.Omega.{arith}
use lib.Dec.{T}
use lib.Ieee.{Float, nan, inf, fin}
use lib.Ieee.Scale.{finite}
use Rattle.config.specs.Refusal.{none, refused}
use Rattle.config.specs.declared.Refused.{Refused as Why}
use Rattle.config.specs.Told.{number_of}
use Rattle.row.specs.Answer.{refusal_of, value_of, measured, answer}
use Rattle.row.specs.declared.RowAnswer.{RowAnswer}
use Rattle.row.specs.declared.RowAnswer.TheVariants.{Distance, PassedOver, Refused}

-- 21 at the place of a row that is not valid, then 22 at that of an eligible row whose distance is not finite, else none
pub refusal_is : (valid eligible : Bool) (place : ℕ) (x : Float)
    → refusal_of (answer valid eligible place x) ≡ cond valid (cond (eligible && not (finite x)) (refused 22 place) none) (refused 21 place)
unfolding answer measured
refusal_is false eligible place x = refl
refusal_is true false place x = refl
refusal_is true true place nan = refl
refusal_is true true place (inf s) = refl
refusal_is true true place (fin s m e) = refl

-- number 0 is no refusal
pub refusal-none : (valid eligible : Bool) (place : ℕ) (x : Float) → (refusal_of (answer valid eligible place x)).number ≡ 0 → refusal_of (answer valid eligible place x) ≡ none
unfolding answer measured
refusal-none false eligible place x h = absurd (omega arith)
refusal-none true false place x h = refl
refusal-none true true place nan h = absurd (omega arith)
refusal-none true true place (inf s) h = absurd (omega arith)
refusal-none true true place (fin s m e) h = refl

-- the value of a row that is valid, eligible and of a finite distance is that distance
pub value-is : (place : ℕ) (x : Float) → T (finite x) → value_of (answer true true place x) ≡ x
unfolding answer measured
value-is place nan h = absurd h
value-is place (inf s) h = absurd h
value-is place (fin s m e) h = refl

-- ---- by the case that is found
abbrev is_distance : RowAnswer → Bool
is_distance (Distance x) = true
is_distance PassedOver = false
is_distance (Refused r) = false

abbrev is_passed : RowAnswer → Bool
is_passed (Distance x) = false
is_passed PassedOver = true
is_passed (Refused r) = false

-- a row that yields a distance passes the row test and is eligible, and the distance is its own and finite
pub record Yields (valid eligible : Bool) (a x : Float) : Type 0 where
  pub holds : valid ≡ true
  pub wanted : eligible ≡ true
  pub is : x ≡ a
  pub fine : T (finite x)

pub yields : (valid eligible : Bool) (place : ℕ) (a : Float) {x : Float} → Distance x ≡ answer valid eligible place a → Yields valid eligible a x
unfolding answer measured
yields false eligible place a e = absurd (true≢false (ap is_distance e))
yields true false place a e = absurd (true≢false (ap is_distance e))
yields true true place nan e = absurd (true≢false (ap is_distance e))
yields true true place (inf s) e = absurd (true≢false (ap is_distance e))
yields true true place (fin s m d) e = let k = ap value_of e in record { holds = refl; wanted = refl; is = k; fine = rw k tt }

-- a row that is passed over passes the row test and is not eligible
pub passes_over : (valid eligible : Bool) (place : ℕ) (a : Float) → PassedOver ≡ answer valid eligible place a → (valid ≡ true) × (eligible ≡ false)
unfolding answer measured
passes_over false eligible place a e = absurd (true≢false (ap is_passed e))
passes_over true false place a e = (refl, refl)
passes_over true true place nan e = absurd (true≢false (ap is_passed e))
passes_over true true place (inf s) e = absurd (true≢false (ap is_passed e))
passes_over true true place (fin s m d) e = absurd (true≢false (ap is_passed e))

-- a refusal has a number
pub refuses : (valid eligible : Bool) (place : ℕ) (a : Float) {f : Why} → Refused f ≡ answer valid eligible place a → number_of f.number ≡ 0 → ⊥
unfolding answer measured
refuses false eligible place a e z = let k = ap (λ r. (refusal_of r).number) e in omega (arith, k, z)
refuses true false place a e z = true≢false (ap is_passed (sym e))
refuses true true place nan e z = let k = ap (λ r. (refusal_of r).number) e in omega (arith, k, z)
refuses true true place (inf s) e z = let k = ap (λ r. (refusal_of r).number) e in omega (arith, k, z)
refuses true true place (fin s m d) e z = true≢false (ap is_distance (sym e))
