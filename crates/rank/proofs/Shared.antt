-- Which numbers are among a list, and how many two lists share.
use mathlib.Core.Path.{◌≡◌, refl, sym, ◌∙◌}
use mathlib.Core.Logic.{inl, inr}
use mathlib.Core.Bool.{Bool, true, false, cond, false≢true}
use mathlib.Core.List.{List, [], ◌∷◌}
use Prim.Native.Nat.{ℕ, suc, ◌≤◌}
use native.Mathlib.Omega.{arith}
use lib.Dec.{eqb}
use borrow.Author.Tests.{eqb-true, eqb-false, eq-eqb, ne_eqb}
use Rattle.rank.specs.Sort.{◌∈◌, Distinct, sort}
use Rattle.rank.specs.Limit.{among, shared}
use Rattle.le.proofs.Chain.{by}
use Rattle.rank.proofs.Sort.{from-sort, to_sort}

pub from-among : (x : ℕ) (ys : List ℕ) → among x ys ≡ true → x ∈ ys
unfolding among
from-among x [] h = absurd (false≢true h)
from-among x (y ∷ ys) h = by (eqb x y) (λ e. inl (eqb-true x y e)) (λ e. inr (from-among x ys (rw e at h)))

pub to_among : (x : ℕ) (ys : List ℕ) → x ∈ ys → among x ys ≡ true
unfolding among
to_among x [] h = absurd h
to_among x (y ∷ ys) (inl p) = rw (eq-eqb x y p)
to_among x (y ∷ ys) (inr m) = by (eqb x y) (λ e. rw e) (λ e. rw e (to_among x ys m))

pub not_among : (x : ℕ) (ys : List ℕ) → ¬ (x ∈ ys) → among x ys ≡ false
not_among x ys n = by (among x ys) (λ e. absurd (n (from-among x ys e))) (λ e. e)

-- the order of the list does not matter
pub among-sort : (le : ℕ → ℕ → Bool) (x : ℕ) (ys : List ℕ) → among x (sort le ys) ≡ among x ys
among-sort le x ys =
    by (among x ys)
    (λ e. to_among x (sort le ys) (to_sort le x ys (from-among x ys e)) ∙ sym e)
    (λ e. not_among x (sort le ys) (λ m. false≢true (sym e ∙ to_among x ys (from-sort le x ys m))) ∙ sym e)

pub shared_mono : (xs ys zs : List ℕ) → ((r : ℕ) → r ∈ xs → r ∈ ys → r ∈ zs) → shared xs ys ≤ shared xs zs
unfolding shared
shared_mono [] ys zs f = omega arith
shared_mono (x ∷ xs) ys zs f =
    let rest = shared_mono xs ys zs (λ r m. f r (inr m)) in
    by (among x ys)
    (λ e. simp (e, to_among x zs (f x (inl refl) (from-among x ys e))) (omega arith))
    (λ e. by (among x zs) (λ g. simp (e, g) (omega arith)) (λ g. simp (e, g) (omega arith)))

shared-nil : (ys : List ℕ) → shared ys [] ≡ 0
unfolding among shared
shared-nil [] = refl
shared-nil (y ∷ ys) = shared-nil ys

shared-cons : (x : ℕ) (xs ys : List ℕ) → ¬ (x ∈ xs) → Distinct ys
    → shared ys (x ∷ xs) ≡ cond (among x ys) (suc (shared ys xs)) (shared ys xs)
unfolding among shared
shared-cons x xs [] n d = refl
shared-cons x xs (y ∷ ys) n d =
    let rest = shared-cons x xs ys n d.1 in
    by (eqb x y)
    (λ e.
    let p : x ≡ y = eqb-true x y e in
    cc (eq-eqb y x (sym p), not_among y xs (λ m. n (rw p m)), not_among x ys (λ m. d.0 x m (sym p))))
    (λ e.
    let ne : eqb y x ≡ false = ne_eqb y x (λ q. eqb-false x y e (sym q)) in
    by (among x ys) (λ f. by (among y xs) (λ g. cc) (λ g. cc)) (λ f. by (among y xs) (λ g. cc) (λ g. cc)))

-- it may be counted either way round
pub shared_comm : (xs ys : List ℕ) → Distinct xs → Distinct ys → shared xs ys ≡ shared ys xs
unfolding shared
shared_comm [] ys d f = sym (shared-nil ys)
shared_comm (x ∷ xs) ys d f = rw (shared_comm xs ys d.1 f) (sym (shared-cons x xs ys (λ m. d.0 x m refl) f))
