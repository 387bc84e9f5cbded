-- `LimitTheorem` holds, whatever the approximate order: with more candidates the list only gets better.
use mathlib.Core.Path.{◌≡◌}
use mathlib.Core.Logic.{⊎_elim}
use mathlib.Core.Bool.{Bool, true}
use mathlib.Core.List.{List, ◌++◌}
use Prim.Native.Nat.{ℕ, ◌≤◌, ◌<◌, min}
use native.Mathlib.Omega.{arith}
use lib.ListN.{length, take, drop, get_or, take-append-drop}
use lib.Seq.{take-take, take_all, get_or-take}
use Rattle.rank.specs.Sort.{◌∈◌, Pairwise, Distinct, TotalOrder, sort, least, Least}
use Rattle.rank.specs.Limit.{by_key, candidates, listed, exact, LimitTheorem}
use Rattle.rank.proofs.Members.{take_mono, apart, pairwise_map, pairwise_take}
use Rattle.rank.proofs.Sort.{length_sort, distinct-sort, sort-sort}
use Rattle.rank.proofs.Least.{length_least, from-least, least-is, least-only, more_earlier, more-kept}
use Rattle.rank.proofs.ByKey.{order}
use Rattle.rank.proofs.Shared.{shared_mono}

module _ (near le : ℕ → ℕ → Bool) (O : TotalOrder le) (eligible : List ℕ) (once : Distinct eligible) where
  abbrev ranked : List ℕ
  ranked = sort near eligible

  abbrev list : ℕ → ℕ → List ℕ
  list = listed near le eligible

  once-ranked : Distinct ranked
  once-ranked = distinct-sort near eligible once

  -- a row of the exact list that is a candidate is listed
  listed_if : (k L r : ℕ) → r ∈ least le k eligible → r ∈ take L ranked → r ∈ list k L
  unfolding candidates listed least
  listed_if k L r h c =
      ⊎_elim (λ m. m) (λ m. absurd (apart r L ranked once-ranked c m))
      (more-kept le O r k (take L ranked) (drop L ranked) (rw (take-append-drop L ranked, sort-sort le O near eligible) h))

  keeps : (k L₁ L₂ r : ℕ) → L₁ ≤ L₂ → r ∈ least le k eligible → r ∈ list k L₁ → r ∈ list k L₂
  unfolding candidates listed least
  keeps k L₁ L₂ r l h m = listed_if k L₂ r h (take_mono r L₁ L₂ ranked l (from-least le r k (take L₁ ranked) m))

  better : (k L₁ L₂ i : ℕ) → k ≤ L₁ → L₁ ≤ L₂ → i < min k (length eligible)
      → le (get_or (list k L₂) i 0) (get_or (list k L₁) i 0) ≡ true
  unfolding candidates listed least
  better k L₁ L₂ i kl l h =
      let prefix : take L₁ ranked ++ drop L₁ (take L₂ ranked) ≡ take L₂ ranked =
      rw (← take-take L₁ L₂ ranked l) (take-append-drop L₁ (take L₂ ranked)) in
      let fits : i < length (take L₁ ranked) = omega (arith, length_least near L₁ eligible) in
      let in-k : i < k = omega arith in
      simp get_or-take (rw prefix at (more_earlier le O (take L₁ ranked) (drop L₁ (take L₂ ranked)) i 0 fits))

  pub limit_theorem : LimitTheorem near le eligible
  unfolding candidates listed exact least
  limit_theorem = record {
    listed_are = λ k L. least-is le O k (take L ranked) (pairwise_take _ L ranked once-ranked);
    exact_are = λ k. least-is le O k eligible once;
    exact-only = λ k l. least-only le O k eligible l once;
    size = λ k L h. omega (arith, length_least le k (take L ranked), length_least near L eligible);
    within = λ k L r h. from-least near r L eligible (from-least le r k (take L ranked) h);
    whole = λ k L h. rw (take_all L ranked (omega (arith, length_sort near eligible)), sort-sort le O near eligible);
    better = better;
    keeps = keeps;
    agrees = λ k L₁ L₂ l. shared_mono (least le k eligible) (list k L₁) (list k L₂) (λ r. keeps k L₁ L₂ r l);
  }

-- eligible rows are given in rising order
pub rising_once : (eligible : List ℕ) → Pairwise ◌<◌ eligible → Distinct eligible
rising_once = pairwise_map (λ r s. omega arith)

-- for rows by an original key, and any approximate order
pub by_keys : (near : ℕ → ℕ → Bool) (original : ℕ → ℕ) (eligible : List ℕ) → Pairwise ◌<◌ eligible
    → LimitTheorem near (by_key original) eligible
by_keys near original eligible rising = limit_theorem near (by_key original) (order original) eligible (rising_once eligible rising)

-- and where the approximate order is by a key too, the candidates are the least by it
pub candidates_are : (approximate : ℕ → ℕ) (le : ℕ → ℕ → Bool) (eligible : List ℕ) → Pairwise ◌<◌ eligible
    → (L : ℕ) → Least (by_key approximate) L eligible (candidates (by_key approximate) le eligible L)
unfolding candidates
candidates_are approximate le eligible rising L = least-is (by_key approximate) (order approximate) L eligible (rising_once eligible rising)
