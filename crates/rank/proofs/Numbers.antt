-- The order of numbers, as a test and by cases.
use mathlib.Core.Path.{◌≡◌, sym, ◌∙◌}
use mathlib.Core.Logic.{◌⊎◌, inl, inr, ◌≢◌}
use mathlib.Core.Bool.{Bool, true, false}
use Prim.Native.Nat.{ℕ, ◌≤◌, ◌<◌}
use native.Mathlib.Omega.{arith}
use lib.Dec.{leb, ltb, eqb}
use borrow.Author.Tests.{leb-true, leb-false, le-leb, ltb-true, ltb-false, eqb-true, eqb-false}
use Rattle.rank.specs.Sort.{TotalOrder}
use Rattle.le.proofs.Chain.{by}

pub leb_order : TotalOrder leb
leb_order = record {
  trans = λ {x} {y} {z} p q. le-leb x z (omega (arith, leb-true x y p, leb-true y z q));
  antisym = λ {x} {y} p q. omega (arith, leb-true x y p, leb-true y x q);
  total = λ {x} {y} p. le-leb y x (omega (arith, leb-false x y p));
}

pub eq_or_ne : (a b : ℕ) → (a ≡ b) ⊎ (a ≢ b)
eq_or_ne a b = by (eqb a b) (λ e. inl (eqb-true a b e)) (λ e. inr (eqb-false a b e))

-- what an answer says that is a test
pub says_lt : (x y : ℕ) {b : Bool} → b ≡ ltb x y → b ≡ true → x < y
says_lt x y e t = ltb-true x y (sym e ∙ t)

pub says_le : (x y : ℕ) {b : Bool} → b ≡ ltb x y → b ≡ false → y ≤ x
says_le x y e t = ltb-false x y (sym e ∙ t)
