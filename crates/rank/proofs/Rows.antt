-- The rows below n that pass: these and no others, rising, how many, and what one row more adds; rows below a bound.
use mathlib.Core.Path.{◌≡◌, refl, ap, ◌∙◌}
use mathlib.Core.Logic.{inl, inr, ⊎_elim}
use mathlib.Core.Bool.{Bool, true, false}
use mathlib.Core.List.{List, [], ◌∷◌, ◌++◌}
use Prim.Native.Nat.{ℕ, zero, suc, ◌+◌, ◌≤◌, ◌<◌}
use native.Mathlib.Numerals.{add-one}
use native.Mathlib.Omega.{arith}
use lib.ListN.{length, get_or, length-append}
use Rattle.rank.specs.Sort.{◌∈◌, Pairwise, sort}
use Rattle.rank.specs.Rows.{passing, RowsBelow}
use Rattle.le.proofs.Chain.{by}
use Rattle.rank.proofs.Members.{mem-get_or, all-at, mem_snoc, snoc_mem, pairwise_snoc}
use Rattle.rank.proofs.Sort.{from-sort}
use Rattle.rank.proofs.Numbers.{eq_or_ne}

module _ (ok : ℕ → Bool) where
  pub passing-none : passing ok 0 ≡ []
  unfolding passing
  passing-none = refl

  pub passing-more : (n : ℕ) → ok n ≡ true → passing ok (n + 1) ≡ passing ok n ++ n ∷ []
  unfolding passing
  passing-more n e = rw (add-one, e)

  pub passing_skip : (n : ℕ) → ok n ≡ false → passing ok (n + 1) ≡ passing ok n
  unfolding passing
  passing_skip n e = rw (add-one, e)

  pub passing_pass : (n r : ℕ) → r ∈ passing ok n → (r < n) × (ok r ≡ true)
  unfolding passing
  passing_pass zero r m = absurd m
  passing_pass (suc n) r m =
      let rest : r ∈ passing ok n → (r < suc n) × (ok r ≡ true) = λ k. let p = passing_pass n r k in (omega arith, p.1) in
      by (ok n) (λ e. ⊎_elim rest (λ q. (omega arith, rw q e)) (mem_snoc r (passing ok n) n (rw e at m))) (λ e. rest (rw e at m))

  pub passing-complete : (n r : ℕ) → r < n → ok r ≡ true → r ∈ passing ok n
  unfolding passing
  passing-complete zero r h e = omega arith
  passing-complete (suc n) r h e =
      ⊎_elim
      (λ (q : r ≡ n). rw (rw q at e) (snoc_mem r (passing ok n) n (inr q)))
      (λ q. let m : r ∈ passing ok n = passing-complete n r (omega arith) e in
      by (ok n) (λ f. rw f (snoc_mem r (passing ok n) n (inl m))) (λ f. rw f m))
      (eq_or_ne r n)

  pub passing_rising : (n : ℕ) → Pairwise ◌<◌ (passing ok n)
  unfolding passing
  passing_rising zero = tt
  passing_rising (suc n) =
      by (ok n)
      (λ e. rw e (pairwise_snoc ◌<◌ (passing ok n) n (passing_rising n) (λ y m. (passing_pass n y m).0)))
      (λ e. rw e (passing_rising n))

  pub count-more : (n : ℕ) → ok n ≡ true → length (passing ok (n + 1)) ≡ length (passing ok n) + 1
  count-more n e = ap length (passing-more n e) ∙ length-append (passing ok n) (n ∷ [])

  pub count_skip : (n : ℕ) → ok n ≡ false → length (passing ok (n + 1)) ≡ length (passing ok n)
  count_skip n e = ap length (passing_skip n e)

  pub count_most : (n : ℕ) → length (passing ok n) ≤ n
  unfolding passing
  count_most zero = omega arith
  count_most (suc n) =
      let h = count_most n in
      by (ok n) (λ e. rw e (omega (arith, h, length-append (passing ok n) (n ∷ [])))) (λ e. rw e (omega (arith, h)))

  pub count-all : (n : ℕ) → ((r : ℕ) → r < n → ok r ≡ true) → length (passing ok n) ≡ n
  unfolding passing
  count-all zero h = refl
  count-all (suc n) h =
      rw (h n (omega arith)) (omega (arith, length-append (passing ok n) (n ∷ []), count-all n (λ r l. h r (omega arith))))

-- ---- rows below a bound

pub each_below : (n : ℕ) (rows : List ℕ) → RowsBelow n rows → (r : ℕ) → r ∈ rows → r < n
each_below n rows B = all-at (λ r. r < n) rows 0 B.at

pub rows-below : (n : ℕ) (rows : List ℕ) → ((r : ℕ) → r ∈ rows → r < n) → RowsBelow n rows
rows-below n rows h = record { at = λ i l. h (get_or rows i 0) (mem-get_or rows i 0 l) }

pub sort-below : (le : ℕ → ℕ → Bool) (n : ℕ) (rows : List ℕ) → RowsBelow n rows → RowsBelow n (sort le rows)
sort-below le n rows B = rows-below n (sort le rows) (λ r m. each_below n rows B r (from-sort le r rows m))
