-- The places that agree, row by row: of an ordered list they are lowered by a row that it lacks to those before that row.
use mathlib.Core.Path.{◌≡◌, refl, sym, ap, ◌∙◌}
use mathlib.Core.Logic.{◌≢◌, inl, inr, ⊎_elim}
use mathlib.Core.Bool.{Bool, true, false, true≢false}
use mathlib.Core.List.{List, [], ◌∷◌, ◌++◌, map}
use Prim.Native.Nat.{ℕ, zero, suc, ◌-◌, ◌≤◌, ◌<◌}
use native.Mathlib.Omega.{arith}
use lib.Dec.{eqb, ltb}
use lib.ListN.{length, get_or}
use borrow.Author.Tests.{eqb-true, eqb-false, ltb-true, ltb-false}
use Rattle.le.proofs.Chain.{by, lt_or_le}
use Rattle.rank.specs.Sort.{◌∈◌, Ascending, sort}
use Rattle.rank.specs.Limit.{by_key}
use Rattle.rank.proofs.Members.{mem-get_or, all-at, mem_snoc, snoc_mem, pairwise_at}
use Rattle.rank.proofs.Sort.{le_refl, from-sort, to_sort}
use Rattle.rank.proofs.Numbers.{eq_or_ne}
use Rattle.rank.proofs.ByKey.{order}
use Rattle.search_spec.specs.Outcome.{same_places}
use Rattle.search_spec.proofs.Prefix.{Part, Agrees, same-prefix, prefix-agrees}
use Rattle.agreement.specs.Count.{key_not_after, FirstIs, AheadIs}

-- ---- the search for a place

-- it lies from low to high, where `test` passes
pub record Between (test : ℕ → Bool) (n low high : ℕ) : Type 0 where
  pub order : low ≤ high
  pub below : high < n
  pub at : test high ≡ true
  pub after : (j : ℕ) → suc j ≡ low → test j ≡ false

-- ---- a list in order, with its keys

mapped : (f : ℕ → ℕ) (l : List ℕ) (i : ℕ) → i < length l → get_or (map f l) i 0 ≡ f (get_or l i 0)
mapped f [] i h = absurd (omega arith)
mapped f (y ∷ l) zero h = refl
mapped f (y ∷ l) (suc i) h = mapped f l i (omega arith)

module _ (key : ℕ → ℕ) (ks l : List ℕ) (keys : ks ≡ map key l) (up : Ascending (by_key key) l) where
  abbrev le : ℕ → ℕ → Bool
  le = by_key key

  test_is : (row i : ℕ) → i < length l → key_not_after ks l (key row) row i ≡ le row (get_or l i 0)
  unfolding by_key
  test_is row i h = rw (keys, mapped key l i h)

  -- a row that holds a place or comes before it comes before all later ones
  later : (row i j : ℕ) → i ≤ j → j < length l → le row (get_or l i 0) ≡ true → le row (get_or l j 0) ≡ true
  later row i j h b t =
      ⊎_elim (λ (e : i ≡ j). rw e at t)
      (λ n. (order key).trans t (pairwise_at (λ x y. le x y ≡ true) l 0 up i j (omega (arith, n)) b))
      (eq_or_ne i j)

  module _ (row : ℕ) {n i : ℕ} (F : FirstIs (key_not_after ks l (key row) row) n i) (fits : n ≤ length l) where
    -- so all before the place come before the row
    all-before : (j : ℕ) → j < i → le row (get_or l j 0) ≡ false
    all-before j h = let f = F.fits in
        by (le row (get_or l j 0))
        (λ t. absurd (true≢false (sym (later row j (i - 1) (omega arith) (omega arith) t) ∙ sym (test_is row (i - 1) (omega arith)) ∙ F.after (i - 1) (omega arith))))
        (λ t. t)

    -- and the row is listed there or not at all
    not_listed : (i < n) → get_or l i 0 ≢ row → ¬ (row ∈ l)
    not_listed h d m =
        let t : le row (get_or l i 0) ≡ true = sym (test_is row i (omega arith)) ∙ F.at h in
        all-at (λ x. x ≢ row) l 0
        (λ j b q. ⊎_elim
        (λ (g : j < i). true≢false (sym (le_refl le (order key) row) ∙ ap (le row) (sym q) ∙ all-before j g))
        (λ (g : i ≤ j). d ((order key).antisym (ap (le (get_or l i 0)) (sym q) ∙ later_places i j g b) t))
        (lt_or_le j i))
        row m refl
      where
        later_places : (i j : ℕ) → i ≤ j → j < length l → le (get_or l i 0) (get_or l j 0) ≡ true
        later_places i j h b = later (get_or l i 0) i j h b (le_refl le (order key) (get_or l i 0))

  -- ---- row by row: e are the eligible rows that were passed
  pub agrees_start : Agrees le (order key) l [] (length l)
  agrees_start = record { fits = omega arith; later = λ y j i. absurd i; stop = λ h. absurd (omega arith) }

  module _ {e : List ℕ} {n : ℕ} (A : Agrees le (order key) l e n) (row : ℕ) where
    -- a row that is listed, or comes after the places that agree
    stays : (¬ (row ∈ l) → (j : ℕ) → j < n → le row (get_or l j 0) ≡ false) → Agrees le (order key) l (e ++ row ∷ []) n
    stays f = record {
      fits = A.fits;
      later = λ y j i m h. ⊎_elim (λ k. A.later y j k m h) (λ (q : y ≡ row). rw q (f (λ k. m (rw q k)) j h)) (mem_snoc y e row i);
      stop = λ h. let s = A.stop h in record { one = s.one; in_all = snoc_mem s.one e row (inl s.in_all); missing = s.missing; first = s.first };
    }

    -- one that is not, and comes before some
    falls : (i : ℕ) → FirstIs (key_not_after ks l (key row) row) n i → i < n → get_or l i 0 ≢ row → Agrees le (order key) l (e ++ row ∷ []) i
    falls i F h d = let f = A.fits in record {
      fits = omega arith;
      later = λ y j k m g. ⊎_elim (λ o. A.later y j o m (omega arith)) (λ (q : y ≡ row). rw q (all-before row F f j g)) (mem_snoc y e row k);
      stop = λ g. record { one = row; in_all = snoc_mem row e row (inr refl); missing = not_listed row F f h d; first = sym (test_is row i g) ∙ F.at h };
    }

    pub agrees_turn : {r : ℕ} → AheadIs (key_not_after ks l (key row) row) l n row r → Agrees le (order key) l (e ++ row ∷ []) r
    agrees_turn {r} H =
        let i : ℕ = H.place in
        by (ltb i n)
        (λ t. let h = ltb-true i n t in
        by (eqb (get_or l i 0) row)
        (λ u. let q : r ≡ n = H.so ∙ rw (t, u) in
        let f = A.fits in
        rw q (stays (λ m. absurd (m (rw (eqb-true (get_or l i 0) row u) at (mem-get_or l i 0 (omega arith)))))))
        (λ u. let q : r ≡ i = H.so ∙ rw (t, u) in rw q (falls i H.first h (eqb-false (get_or l i 0) row u))))
        (λ t. let q : r ≡ n = H.so ∙ rw t in
        let g = ltb-false i n t in
        rw q (stays (λ m j h. all-before row H.first A.fits j (omega arith))))

  -- all rows are passed
  pub agrees-all : {e : List ℕ} {n : ℕ} → Agrees le (order key) l e n → Part le (order key) l (sort le e) → n ≡ same_places l (sort le e)
  agrees-all {e} {n} A p =
      sym (same-prefix le (order key) l (sort le e) p
      ∙ prefix-agrees le (order key) l (sort le e) n p
      (record {
        fits = A.fits;
        later = λ y j i. A.later y j (from-sort le y e i);
        stop = λ h. let s = A.stop h in record { one = s.one; in_all = to_sort le s.one e s.in_all; missing = s.missing; first = s.first };
      }))
