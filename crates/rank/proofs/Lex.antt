-- An order of rows by a first test on something that each has, and where that decides nothing by a number. It is total
-- where the test is one way and what is not before is so along a chain.
use mathlib.Core.Path.{◌≡◌, sym, ◌∙◌}
use mathlib.Core.Logic.{◌⊎◌, inl, inr}
use mathlib.Core.Bool.{Bool, true, false, cond, true≢false, false≢true}
use Prim.Native.Nat.{ℕ, ◌≤◌}
use native.Mathlib.Omega.{arith}
use lib.Dec.{leb}
use borrow.Author.Tests.{leb-true, leb-false, le-leb}
use Rattle.rank.specs.Sort.{TotalOrder}
use Rattle.le.proofs.Chain.{by}

module _ {A : Type 0} (below : A → A → Bool) (one_way : (x y : A) → below x y ≡ true → below y x ≡ false)
    (chain : (x y z : A) → below x y ≡ false → below y z ≡ false → below x z ≡ false) (at : ℕ → A) (id : ℕ → ℕ) where
  abbrev pub lex : ℕ → ℕ → Bool
  lex r s = cond (below (at r) (at s)) true (cond (below (at s) (at r)) false (leb (id r) (id s)))

  abbrev Before : ℕ → ℕ → Type 0
  Before r s = (below (at r) (at s) ≡ true) ⊎ (below (at r) (at s) ≡ false) × (below (at s) (at r) ≡ false) × (id r ≤ id s)

  reads : (r s : ℕ) → lex r s ≡ true → Before r s
  reads r s h =
      by (below (at r) (at s)) inl
      (λ e. by (below (at s) (at r))
      (λ f. absurd (false≢true (rw (e, f) at h)))
      (λ f. inr (e, f, leb-true (id r) (id s) (rw (e, f) at h))))

  fails : (r s : ℕ) → lex r s ≡ false → Before s r
  fails r s h =
      by (below (at r) (at s))
      (λ e. absurd (true≢false (rw e at h)))
      (λ e. by (below (at s) (at r)) inl (λ f. inr (f, e, omega (arith, leb-false (id r) (id s) (rw (e, f) at h)))))

  holds : (r s : ℕ) → Before r s → lex r s ≡ true
  holds r s (inl h) = rw h
  holds r s (inr h) = rw (h.0, h.1) (le-leb (id r) (id s) h.2)

  not_after_lem : (r s : ℕ) → Before r s → below (at s) (at r) ≡ false
  not_after_lem r s (inl h) = one_way (at r) (at s) h
  not_after_lem r s (inr h) = h.1

  level : (r s t : ℕ) → Before r s → Before s t → below (at r) (at t) ≡ false → id r ≤ id t
  level r s t (inl h) k e = absurd (true≢false (sym h ∙ chain (at r) (at t) (at s) e (not_after_lem s t k)))
  level r s t (inr h) (inl k) e = absurd (true≢false (sym k ∙ chain (at s) (at r) (at t) h.1 e))
  level r s t (inr h) (inr k) e = omega arith

  before-trans : (r s t : ℕ) → Before r s → Before s t → Before r t
  before-trans r s t h k =
      by (below (at r) (at t)) inl
      (λ e. inr (e, chain (at t) (at s) (at r) (not_after_lem s t k) (not_after_lem r s h), level r s t h k e))

  before_both : (r s : ℕ) → Before r s → Before s r → id r ≡ id s
  before_both r s (inl h) k = absurd (true≢false (sym h ∙ not_after_lem s r k))
  before_both r s (inr h) (inl k) = absurd (true≢false (sym k ∙ h.1))
  before_both r s (inr h) (inr k) = omega arith

  pub lex_not_after : (r s : ℕ) → lex r s ≡ true → below (at s) (at r) ≡ false
  lex_not_after r s h = not_after_lem r s (reads r s h)

  pub lex-trans : (r s t : ℕ) → lex r s ≡ true → lex s t ≡ true → lex r t ≡ true
  lex-trans r s t h k = holds r t (before-trans r s t (reads r s h) (reads s t k))

  pub lex-total : (r s : ℕ) → lex r s ≡ false → lex s r ≡ true
  lex-total r s h = holds s r (fails r s h)

  -- no two rows have one number
  pub lex-order : ((r s : ℕ) → id r ≡ id s → r ≡ s) → TotalOrder lex
  lex-order once = record {
    trans = λ {x} {y} {z}. lex-trans x y z;
    antisym = λ {x} {y} p q. once x y (before_both x y (reads x y p) (reads y x q));
    total = λ {x} {y}. lex-total x y;
  }
