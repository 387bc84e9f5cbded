-- What a chain of tests answers, and what a number of 0 says of the tests.
use mathlib.Core.Path.{◌≡◌, refl, ◌∙◌}
use mathlib.Core.Bool.{Bool, true, false, cond}
use Prim.Native.Nat.{ℕ, suc}
use native.Mathlib.Omega.{arith}
use lib.Dec.{eqb}
use borrow.Author.Tests.{eqb-true, eqb-false, eq-eqb, ne_eqb}
use Rattle.le.proofs.Chain.{by}
use Rattle.config.specs.Refusal.{Refusal, none, refused, then_refusal, refused_or, refused_at, unless_refused}

pub not_zero : {n : ℕ} → suc n ≡ 0 → ⊥
not_zero e = absurd (omega arith)

-- one test of a chain, the other branch of which has a number
pub held_number : (t : Bool) (a b : Refusal) → (b.number ≡ 0 → ⊥) → (cond t a b).number ≡ 0 → (t ≡ true) × (a.number ≡ 0)
held_number true a b n e = (refl, e)
held_number false a b n e = absurd (n e)

-- a refusal before the rest
module _ (first rest : Refusal) where
  pub then_rest : first.number ≡ 0 → then_refusal first rest ≡ rest
  then_rest e = rw (eq-eqb first.number 0 e)

  pub then_first : (first.number ≡ 0 → ⊥) → then_refusal first rest ≡ first
  then_first h = rw (ne_eqb first.number 0 h)

  pub then_none : (then_refusal first rest).number ≡ 0 → (first.number ≡ 0) × (rest.number ≡ 0)
  then_none h =
      by (eqb first.number 0) (λ e. (eqb-true first.number 0 e, rw e at h))
      (λ e. let f : first.number ≡ 0 = rw e at h in absurd (eqb-false first.number 0 e f))

-- a number before the rest
module _ (n : ℕ) (rest : Refusal) where
  pub goes_on : n ≡ 0 → refused_or n rest ≡ rest
  goes_on e = then_rest (refused n 0) rest e

  pub stops : (n ≡ 0 → ⊥) → refused_or n rest ≡ refused n 0
  stops h = then_first (refused n 0) rest h

  pub none-refused : (refused_or n rest).number ≡ 0 → (n ≡ 0) × (rest.number ≡ 0)
  none-refused h = then_none (refused n 0) rest h

-- a number at the first of k that fails, before the rest
module _ (n bad k : ℕ) (rest : Refusal) where
  pub all_hold : bad ≡ k → refused_at n bad k rest ≡ rest
  all_hold e = rw (eq-eqb bad k e)

  pub one_fails : (bad ≡ k → ⊥) → refused_at n bad k rest ≡ refused n bad
  one_fails h = rw (ne_eqb bad k h)

  pub none_fails : (n ≡ 0 → ⊥) → (refused_at n bad k rest).number ≡ 0 → (bad ≡ k) × (rest.number ≡ 0)
  none_fails z h = let p = held_number (eqb bad k) rest (refused n bad) z h in (eqb-true bad k p.0, p.1)

-- ---- number 0 is no refusal
abbrev pub Plain : Refusal → Type 0
Plain f = f.number ≡ 0 → f ≡ none

pub plain_or : (n : ℕ) (rest : Refusal) → Plain rest → Plain (refused_or n rest)
plain_or n rest p h = let q = none-refused n rest h in goes_on n rest q.0 ∙ p q.1

pub plain_at : (n bad k : ℕ) → (n ≡ 0 → ⊥) → Plain (refused_at n bad k none)
plain_at n bad k z h = all_hold n bad k none (none_fails n bad k none z h).0

-- a rest that refuses nothing
pub or_none : (n : ℕ) → refused_or n none ≡ refused n 0
or_none n = by (eqb n 0) (λ e. rw (e, eqb-true n 0 e)) (λ e. rw e)

module _ {A : Type 0} (r : Refusal) (done other : A) where
  pub is_done : r.number ≡ 0 → unless_refused r done other ≡ done
  is_done e = rw (eq-eqb r.number 0 e)

  pub is-other : (r.number ≡ 0 → ⊥) → unless_refused r done other ≡ other
  is-other h = rw (ne_eqb r.number 0 h)
