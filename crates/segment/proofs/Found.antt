-- What an answer says of the first of n that something is said of, or n.
use mathlib.Core.Path.{◌≡◌, sym, ap}
use mathlib.Core.Bool.{Bool, true, false, true≢false}
use Prim.Native.Nat.{ℕ, ◌≤◌, ◌<◌}
use native.Mathlib.Omega.{arith}
use lib.Dec.{eqb}
use borrow.Author.Tests.{eqb-true, eqb-false}
use Rattle.std.specs.Prelude.{Option, Some, None}
use Rattle.le.proofs.Chain.{by}
use Rattle.config.specs.Told.{found}

value : ℕ → Option ℕ → ℕ
value z (Some x) = x
value z None = z

is_one : Option ℕ → Bool
is_one (Some x) = true
is_one None = false

some_is : (x y : ℕ) → Some x ≡ Some y → x ≡ y
unfolding value
some_is x y h = ap (value x) h

some-not-none : (x : ℕ) → Some x ≡ None → ⊥
unfolding is_one
some-not-none x h = true≢false (ap is_one h)

pub some_found : {n i x : ℕ} → i ≤ n → Some x ≡ found n i → (x ≡ i) × (i < n)
some_found {n} {i} {x} w h =
    by (eqb i n)
    (λ e. let f : Some x ≡ None = rw e at h in absurd (some-not-none x f))
    (λ e. let f : Some x ≡ Some i = rw e at h in let d = eqb-false i n e in (some_is x i f, omega (arith, w, d)))

pub nothing_found : {n i : ℕ} → None ≡ found n i → i ≡ n
nothing_found {n} {i} h =
    by (eqb i n)
    (λ e. eqb-true i n e)
    (λ e. let f : None ≡ Some i = rw e at h in absurd (some-not-none i (sym f)))
