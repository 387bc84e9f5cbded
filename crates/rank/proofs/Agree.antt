-- Two tests that agree on a list's elements: the least are the same, and so is what holds of limits.
use mathlib.Core.Path.{◌≡◌, refl, sym, ap, ◌∙◌}
use mathlib.Core.Logic.{inl, inr}
use mathlib.Core.Bool.{Bool}
use mathlib.Core.List.{List, [], ◌∷◌, map-id}
use Prim.Native.Nat.{ℕ}
use native.Mathlib.Omega.{arith}
use lib.ListN.{length, get_or}
use Rattle.rank.specs.Sort.{◌∈◌, Ascending, least, Least}
use Rattle.rank.specs.Limit.{candidates, listed, exact, LimitTheorem}
use Rattle.rank.proofs.Members.{mem-get_or}
use Rattle.rank.proofs.Least.{from-least, least_map}

module _ {A : Type 0} (le le' : A → A → Bool) where
  -- the two agree on the elements of xs
  abbrev pub Agree : List A → Type 0
  Agree xs = (x y : A) → x ∈ xs → y ∈ xs → le' x y ≡ le x y

  pub least_agree : (k : ℕ) (xs : List A) → Agree xs → least le' k xs ≡ least le k xs
  least_agree k xs h = ap (least le' k) (sym (map-id xs)) ∙ least_map le le' (λ x. x) k xs h ∙ map-id (least le k xs)

  ascending_agree : (l : List A) → Agree l → Ascending le l → Ascending le' l
  ascending_agree [] h p = tt
  ascending_agree (x ∷ l) h p = (λ y m. h x y (inl refl) (inr m) ∙ p.0 y m, ascending_agree l (λ u v m n. h u v (inr m) (inr n)) p.1)

  pub Least_agree : (k : ℕ) (xs l : List A) → Agree xs → Least le k xs l → Least le' k xs l
  Least_agree k xs l h L = record {
    size = L.size;
    within = L.within;
    distinct = L.distinct;
    ascending = ascending_agree l (λ x y m n. h x y (L.within x m) (L.within y n)) L.ascending;
    others = λ x y m n o. h y x n (L.within x m) ∙ L.others x y m n o;
  }

module _ (near le near' le' : ℕ → ℕ → Bool) (eligible : List ℕ) (N : Agree near near' eligible) (O : Agree le le' eligible) where
  same-candidates : (L : ℕ) → candidates near' le' eligible L ≡ candidates near le eligible L
  unfolding candidates
  same-candidates L = least_agree near near' L eligible N

  on_candidates : (L : ℕ) → Agree le le' (candidates near le eligible L)
  unfolding candidates
  on_candidates L x y m n = O x y (from-least near x L eligible m) (from-least near y L eligible n)

  same-listed : (k L : ℕ) → listed near' le' eligible k L ≡ listed near le eligible k L
  unfolding candidates listed
  same-listed k L = ap (least le' k) (same-candidates L) ∙ least_agree le le' k (candidates near le eligible L) (on_candidates L)

  same-exact : (k : ℕ) → exact near' le' eligible k ≡ exact near le eligible k
  unfolding exact
  same-exact k = least_agree le le' k eligible O

  pub limits_agree : LimitTheorem near le eligible → LimitTheorem near' le' eligible
  limits_agree T = record {
    listed_are = λ k L. rw (same-listed k L, same-candidates L)
        (Least_agree le le' k (candidates near le eligible L) _ (on_candidates L) (T.listed_are k L));
    exact_are = λ k. rw (same-exact k) (Least_agree le le' k eligible _ O (T.exact_are k));
    exact-only = λ k l h. T.exact-only k l (Least_agree le' le k eligible l (λ x y m n. sym (O x y m n)) h) ∙ sym (same-exact k);
    size = λ k L h. ap length (same-listed k L) ∙ T.size k L h;
    within = λ k L r m. T.within k L r (rw (same-listed k L) at m);
    whole = λ k L h. same-listed k L ∙ T.whole k L h ∙ sym (same-exact k);
    better = λ k L₁ L₂ i kl l h.
        let a : get_or (listed near le eligible k L₂) i 0 ∈ eligible =
        T.within k L₂ _ (mem-get_or (listed near le eligible k L₂) i 0 (omega (arith, T.size k L₂ (omega arith)))) in
        let b : get_or (listed near le eligible k L₁) i 0 ∈ eligible =
        T.within k L₁ _ (mem-get_or (listed near le eligible k L₁) i 0 (omega (arith, T.size k L₁ kl))) in
        rw (same-listed k L₁, same-listed k L₂) (O _ _ a b ∙ T.better k L₁ L₂ i kl l h);
    keeps = λ k L₁ L₂ r l m n. rw (same-listed k L₂) (T.keeps k L₁ L₂ r l (rw (same-exact k) at m) (rw (same-listed k L₁) at n));
    agrees = λ k L₁ L₂ l. rw (same-exact k, same-listed k L₁, same-listed k L₂) (T.agrees k L₁ L₂ l);
  }
