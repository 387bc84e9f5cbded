-- The first number that fails a test, as a loop over rising numbers finds it.
use mathlib.Core.Path.{◌≡◌, refl, sym, ◌∙◌}
use mathlib.Core.Bool.{Bool, true, false, cond}
use Prim.Native.Nat.{ℕ, zero, suc, ◌+◌, ◌-◌, ◌≤◌, ◌<◌}
use native.Mathlib.Omega.{arith}
use lib.Dec.{eqb}
use borrow.Author.Tests.{eqb-true, eqb-false, eq-eqb, ne_eqb}
use Rattle.std.specs.Prelude.{Some, None}
use Rattle.le.proofs.Chain.{by}
use Rattle.config.specs.Told.{found}
use Rattle.format.specs.Order.{first_from, first_bad, next_bad}

-- a loop has come to i, and what it seeks is the first from there on
pub record Seeks (ok : ℕ → Bool) (n i first : ℕ) : Type 0 where
  pub so : next_bad ok n i ≡ first

-- of all below n, and all before i passed
abbrev pub Reached : (ℕ → Bool) → ℕ → ℕ → Type 0
Reached ok n i = Seeks ok n i (first_bad ok n)

module _ (ok : ℕ → Bool) where
  step : (k i : ℕ) → first_from ok (suc k) i ≡ cond (ok i) (first_from ok k (i + 1)) i
  unfolding first_from
  step k i = refl

  none : (i : ℕ) → first_from ok 0 i ≡ i
  unfolding first_from
  none i = refl

  at_i : (n i : ℕ) → i < n → next_bad ok n i ≡ cond (ok i) (next_bad ok n (i + 1)) i
  at_i n i h = let e : n - i ≡ suc (n - (i + 1)) = omega arith in rw e (step (n - (i + 1)) i)

  high : (k i : ℕ) → first_from ok k i ≤ i + k
  high zero i = rw (none i) (omega arith)
  high (suc k) i = rw (step k i) (by (ok i) (λ p. rw p (let h = high k (i + 1) in omega (arith, h))) (λ p. rw p (omega arith)))

  pub first-within : (n : ℕ) → first_bad ok n ≤ n
  first-within n = let h = high n 0 in omega (arith, h)

  fails_from : (k i : ℕ) → first_from ok k i < i + k → ok (first_from ok k i) ≡ false
  fails_from zero i h = let e = none i in absurd (omega (arith, h, e))
  fails_from (suc k) i h =
      by (ok i)
      (λ p. let e : first_from ok (suc k) i ≡ first_from ok k (i + 1) = step k i ∙ rw p in rw e (fails_from k (i + 1) (omega (arith, h, e))))
      (λ p. let e : first_from ok (suc k) i ≡ i = step k i ∙ rw p in rw (e, p))

  pub first_fails : (n : ℕ) → first_bad ok n < n → ok (first_bad ok n) ≡ false
  first_fails n h = fails_from n 0 (omega (arith, h))

  from_pass : (k i j : ℕ) → first_from ok k i ≡ i + k → i ≤ j → j < i + k → ok j ≡ true
  from_pass zero i j e l h = absurd (omega arith)
  from_pass (suc k) i j e l h =
      by (ok i) (λ p. by (eqb i j) (λ q. rw (eqb-true i j q) at p)
      (λ q. let f : first_from ok k (i + 1) ≡ i + suc k = rw (step k i, p) at e in
      let n = eqb-false i j q in
      from_pass k (i + 1) j (f ∙ omega arith) (omega (arith, n)) (omega arith)))
      (λ p. let f : i ≡ i + suc k = rw (step k i, p) at e in absurd (omega (arith, f)))

  to_pass : (k i : ℕ) → ((j : ℕ) → j < i + k → ok j ≡ true) → first_from ok k i ≡ i + k
  to_pass zero i h = none i ∙ omega arith
  to_pass (suc k) i h = rw (step k i, h i (omega arith)) (to_pass k (i + 1) (λ j l. h j (omega arith)) ∙ omega arith)

  -- where none fails, each passes; and back
  pub each_passes : (n i : ℕ) → first_bad ok n ≡ n → i < n → ok i ≡ true
  each_passes n i e h = from_pass n 0 i (e ∙ omega arith) (omega arith) (omega arith)

  pub all_pass : (n : ℕ) → ((i : ℕ) → i < n → ok i ≡ true) → first_bad ok n ≡ n
  all_pass n h = to_pass n 0 (λ j l. h j (omega arith)) ∙ omega arith

module _ {ok : ℕ → Bool} {n i first : ℕ} where
  pub reached_turn : i < n → ok i ≡ true → Seeks ok n i first → Seeks ok n (i + 1) first
  reached_turn h p r = record { so = sym (rw p at (at_i ok n i h)) ∙ r.so }

  pub reached_stop : i < n → ok i ≡ false → Seeks ok n i first → i ≡ first
  reached_stop h p r = sym (rw p at (at_i ok n i h)) ∙ r.so

  pub reached_end : n ≤ i → Seeks ok n i first → i ≡ first
  reached_end h r = let e : n - i ≡ 0 = omega arith in sym (none ok i) ∙ (rw e at r.so)

  -- the same, of a loop that answers what it found, or whether it found any
  pub one_found : i < n → ok i ≡ false → Seeks ok n i first → Some i ≡ found n first
  one_found h p r = rw (← reached_stop h p r, ne_eqb i n (λ e. omega (arith, h, e)))

  pub none_found : n ≤ i → i ≤ n → Seeks ok n i first → None ≡ found n first
  none_found h k r = rw (← reached_end h r, eq-eqb i n (omega arith))

  pub one_bad : i < n → ok i ≡ false → Seeks ok n i first → false ≡ eqb first n
  one_bad h p r = rw (← reached_stop h p r, ne_eqb i n (λ e. omega (arith, h, e)))

  pub none_bad : n ≤ i → i ≤ n → Seeks ok n i first → true ≡ eqb first n
  none_bad h k r = rw (← reached_end h r, eq-eqb i n (omega arith))

pub next-first : (ok : ℕ → Bool) (n : ℕ) → next_bad ok n 0 ≡ first_bad ok n
next-first ok n = let e : n - 0 ≡ n = omega arith in rw e refl

pub reached_start : (ok : ℕ → Bool) (n : ℕ) → Reached ok n 0
reached_start ok n = record { so = next-first ok n }
