-- The first of n that is refused, and one table's number before another's.
use mathlib.Core.Path.{◌≡◌, refl, sym, ap, ◌∙◌}
use mathlib.Core.Bool.{Bool, true≢false}
use Prim.Native.Nat.{ℕ, zero, suc, ◌+◌, ◌≤◌, ◌<◌}
use native.Mathlib.Omega.{arith}
use lib.Dec.{eqb}
use borrow.Author.Tests.{eqb-true, eqb-false, eq-eqb, ne_eqb}
use Rattle.le.proofs.Chain.{by}
use Rattle.config.specs.Refusal.{Refusal, none, then_refusal}
use Rattle.format.specs.Order.{or_else, first_from, first_bad, first_refusal}
use Rattle.format.proofs.First.{Reached, reached_stop, reached_end, each_passes, all_pass, first-within, first_fails}

-- i is not refused
abbrev pub passes : (ℕ → Refusal) → ℕ → Bool
passes f i = eqb (f i).number 0

module _ (f : ℕ → Refusal) (n : ℕ) where
  -- where none is refused, each passes; and back
  pub each_none : (first_refusal f n).number ≡ 0 → (i : ℕ) → i < n → (f i).number ≡ 0
  unfolding first_refusal
  each_none h i l =
      by (eqb (first_bad (passes f) n) n)
      (λ e. eqb-true (f i).number 0 (each_passes (passes f) n i (eqb-true (first_bad (passes f) n) n e) l))
      (λ e. let g : (f (first_bad (passes f) n)).number ≡ 0 = rw e at h in
      let w = first-within (passes f) n in
      let d = eqb-false (first_bad (passes f) n) n e in
      absurd (true≢false (sym (eq-eqb (f (first_bad (passes f) n)).number 0 g) ∙ first_fails (passes f) n (omega (arith, w, d)))))

  pub all_none : ((i : ℕ) → i < n → (f i).number ≡ 0) → first_refusal f n ≡ none
  unfolding first_refusal
  all_none h = rw (eq-eqb (first_bad (passes f) n) n (all_pass (passes f) n (λ i l. eq-eqb (f i).number 0 (h i l))))

  -- what a loop returns that has come to i
  pub refusal-stop : {i : ℕ} → i < n → ((f i).number ≡ 0 → ⊥) → Reached (passes f) n i → f i ≡ first_refusal f n
  unfolding first_refusal
  refusal-stop {i} h z r = rw (← reached_stop h (ne_eqb (f i).number 0 z) r, ne_eqb i n (λ q. omega (arith, h, q)))

  pub refusal-end : {i : ℕ} → n ≤ i → i ≤ n → Reached (passes f) n i → none ≡ first_refusal f n
  unfolding first_refusal
  refusal-end {i} h k r = rw (← reached_end h r, eq-eqb i n (omega arith))

-- ---- families that agree
pub first_agree : (f g : ℕ → Bool) (k i : ℕ) → ((j : ℕ) → j < i + k → f j ≡ g j) → first_from f k i ≡ first_from g k i
unfolding first_from
first_agree f g zero i h = refl
first_agree f g (suc k) i h = rw (h i (omega arith), first_agree f g k (i + 1) (λ j l. h j (omega arith)))

pub refusals_agree : (f g : ℕ → Refusal) (n : ℕ) → ((i : ℕ) → i < n → f i ≡ g i) → first_refusal f n ≡ first_refusal g n
unfolding first_refusal
refusals_agree f g n h =
    let e : first_bad (passes f) n ≡ first_bad (passes g) n = first_agree (passes f) (passes g) n 0 (λ j l. ap (λ (r : Refusal). eqb r.number 0) (h j (omega arith))) in
    rw e
    (by (eqb (first_bad (passes g) n) n) (λ t. rw t)
    (λ t. rw t (h (first_bad (passes g) n) (let w = first-within (passes g) n in let d = eqb-false (first_bad (passes g) n) n t in omega arith))))

-- ---- the first before the others
pub shift : (ok : ℕ → Bool) (k i : ℕ) → first_from ok k (suc i) ≡ suc (first_from (λ j. ok (suc j)) k i)
unfolding first_from
shift ok zero i = refl
shift ok (suc k) i = let e : suc i + 1 ≡ suc (i + 1) = omega arith in by (ok (suc i)) (λ p. rw (p, e) (shift ok k (i + 1))) (λ p. rw p)

pub first-cons : (f : ℕ → Refusal) (n : ℕ) → first_refusal f (suc n) ≡ then_refusal (f 0) (first_refusal (λ i. f (suc i)) n)
unfolding first_refusal first_from
first-cons f n =
    let b = first_from (λ i. passes f (suc i)) n 0 in
    by (eqb (f 0).number 0)
    (λ p. rw (p, shift (passes f) n 0)
    (by (eqb b n) (λ e. rw (e, eq-eqb (suc b) (suc n) (ap suc (eqb-true b n e))))
    (λ e. rw (e, ne_eqb (suc b) (suc n) (λ g. eqb-false b n e (let h : b ≡ n = omega (arith, g) in h))))))
    (λ p. rw (p, ne_eqb 0 (suc n) (λ g. absurd (omega (arith, g)))))

-- ---- one table before the other: both pass
pub or_else_lem : (a b : ℕ) → or_else a b ≡ 0 → (a ≡ 0) × (b ≡ 0)
or_else_lem a b h =
    by (eqb a 0) (λ e. (eqb-true a 0 e, rw e at h))
    (λ e. let f : a ≡ 0 = rw e at h in (f, absurd (eqb-false a 0 e f)))

-- and neither has a number
pub or_else_not : (a b n : ℕ) → (a ≡ n → ⊥) → (b ≡ n → ⊥) → or_else a b ≡ n → ⊥
or_else_not a b n f g h = by (eqb a 0) (λ e. g (rw e at h)) (λ e. f (rw e at h))
