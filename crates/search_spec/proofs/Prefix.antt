-- Places at which two sorted lists hold the same: where each element of the first is in the second, these are the places before the first at
-- which they differ, and as many as elements of the first come before the least element of the second that it lacks (readings R27).
use mathlib.Core.Path.{◌≡◌, refl, sym, ◌∙◌}
use mathlib.Core.Logic.{◌≢◌, inl, inr, ⊎_elim}
use mathlib.Core.Bool.{Bool, true, false, true≢false, cond}
use mathlib.Core.List.{List, [], ◌∷◌}
use Prim.Native.Nat.{ℕ, zero, suc, ◌≤◌, ◌<◌}
use native.Mathlib.Omega.{arith}
use lib.Dec.{eqb}
use lib.ListN.{length, get_or}
use borrow.Author.Tests.{eqb-true, eqb-false, ne_eqb}
use Rattle.le.proofs.Chain.{by}
use Rattle.rank.proofs.Members.{mem_along}
use Rattle.rank.specs.Sort.{◌∈◌, Distinct, TotalOrder, Ascending}
use Rattle.search_spec.specs.Outcome.{same_places}

-- the places before the first at which two lists differ
unfoldable pub prefix : List ℕ → List ℕ → ℕ
prefix [] ys = 0
prefix (x ∷ xs) [] = 0
prefix (x ∷ xs) (y ∷ ys) = cond (eqb x y) (suc (prefix xs ys)) 0

-- the elements that are z or come before it
unfoldable pub before : (ℕ → ℕ → Bool) → ℕ → List ℕ → ℕ
before le z [] = 0
before le z (x ∷ xs) = cond (le x z) (suc (before le z xs)) (before le z xs)

module _ (le : ℕ → ℕ → Bool) (O : TotalOrder le) where
  -- each in its order, once, and the first part of the second
  pub record Part (l e : List ℕ) : Type 0 where
    pub up : Ascending le l
    pub once : Distinct l
    pub all_up : Ascending le e
    pub all_once : Distinct e
    pub within : (x : ℕ) → x ∈ l → x ∈ e

  -- where the heads are equal the tails are such lists too
  tails : {x y : ℕ} {l e : List ℕ} → x ≡ y → Part (x ∷ l) (y ∷ e) → Part l e
  tails q p =
      record {
        up = p.up.1;
        once = p.once.1;
        all_up = p.all_up.1;
        all_once = p.all_once.1;
        within = λ z i. ⊎_elim (λ h. absurd (p.once.0 z i (q ∙ sym h))) (λ h. h) (p.within z (inr i));
      }

  -- where they are not, the second's head is not in the first, and comes before all of it
  module _ {x y : ℕ} {l e : List ℕ} (n : x ≢ y) (p : Part (x ∷ l) (y ∷ e)) where
    head_later : le y x ≡ true
    head_later = ⊎_elim (λ h. absurd (n h)) (λ i. p.all_up.0 x i) (p.within x (inl refl))

    lacks : ¬ (y ∈ (x ∷ l))
    lacks = ⊎_elim (λ h. n (sym h)) (λ i. n (O.antisym (p.up.0 y i) head_later))

    not_before : (w : ℕ) → w ∈ (x ∷ l) → le w y ≡ false
    not_before w i =
        by (le w y)
        (λ t. absurd (lacks (⊎_elim (λ h. mem_along (x ∷ l) h i) (λ j. mem_along (x ∷ l) (O.antisym t (p.all_up.0 w j)) i) (p.within w i))))
        (λ t. t)

  none_before : (z : ℕ) (l : List ℕ) → ((w : ℕ) → w ∈ l → le w z ≡ false) → before le z l ≡ 0
  unfolding before
  none_before z [] h = refl
  none_before z (x ∷ l) h = rw (h x (inl refl)) (none_before z l (λ w i. h w (inr i)))

  -- past the first place at which they differ they never hold the same: there the first lies in the tail of the second
  apart : (l : List ℕ) (y : ℕ) (e : List ℕ) → Ascending le l → Distinct l → Ascending le (y ∷ e) → Distinct (y ∷ e) → ((x : ℕ) → x ∈ l → x ∈ e) → same_places l (y ∷ e) ≡ 0
  unfolding same_places
  apart [] y e a d b f h = refl
  apart (x ∷ l) y [] a d b f h = absurd (h x (inl refl))
  apart (x ∷ l) y (z ∷ e) a d b f h =
      let n : x ≢ y = λ q. f.0 x (h x (inl refl)) (sym q) in
      let first : le z x ≡ true = ⊎_elim (λ q. rw q (self z)) (λ i. b.1.0 x i) (h x (inl refl)) in
      rw (ne_eqb x y n)
      (apart l z e a.1 d.1 b.1 f.1
      (λ w i. ⊎_elim (λ q. absurd (d.0 w i (O.antisym (a.0 w i) (rw (← q) at first)))) (λ j. j) (h w (inr i))))
    where
      self : (v : ℕ) → le v v ≡ true
      self v = by (le v v) (λ t. t) (λ t. O.total t)

  pub same-prefix : (l e : List ℕ) → Part l e → same_places l e ≡ prefix l e
  unfolding same_places prefix
  same-prefix [] e p = refl
  same-prefix (x ∷ l) [] p = refl
  same-prefix (x ∷ l) (y ∷ e) p =
      by (eqb x y)
      (λ t. rw (t, same-prefix l e (tails (eqb-true x y t) p)))
      (λ t. let n = eqb-false x y t in
      let o : prefix (x ∷ l) (y ∷ e) ≡ 0 = rw t in
      apart (x ∷ l) y e p.up p.once p.all_up p.all_once
      (λ w i. ⊎_elim (λ q. absurd (lacks n p (mem_along (x ∷ l) q i))) (λ j. j) (p.within w i)) ∙ sym o)

  -- z is the least of e that l lacks
  pub record Lacked (l e : List ℕ) (z : ℕ) : Type 0 where
    pub in_all : z ∈ e
    pub missing : ¬ (z ∈ l)
    pub least-one : (y : ℕ) → y ∈ e → ¬ (y ∈ l) → le z y ≡ true

  pub prefix-before : (l e : List ℕ) (z : ℕ) → Part l e → Lacked l e z → prefix l e ≡ before le z l
  unfolding prefix before
  prefix-before [] e z p k = refl
  prefix-before (x ∷ l) [] z p k = absurd k.in_all
  prefix-before (x ∷ l) (y ∷ e) z p k =
      by (eqb x y)
      (λ t. let q = eqb-true x y t in
      let i : z ∈ e = ⊎_elim (λ h. absurd (k.missing (inl (h ∙ sym q)))) (λ j. j) k.in_all in
      let b : le x z ≡ true = rw q (p.all_up.0 z i) in
      rw (
        t,
        b,
        prefix-before l e z (tails q p) (record {
          in_all = i;
          missing = λ j. k.missing (inr j);
          least-one = λ w j m. k.least-one w (inr j) (⊎_elim (λ h. p.all_once.0 w j (sym q ∙ sym h)) m);
        }),
      ))
      (λ t. let n = eqb-false x y t in
      let a : le z y ≡ true = k.least-one y (inl refl) (lacks n p) in
      let q : z ≡ y = ⊎_elim (λ h. h) (λ j. O.antisym a (p.all_up.0 z j)) k.in_all in
      rw t (sym (none_before z (x ∷ l) (λ w i. rw q (not_before n p w i)))))

  pub prefix-all : (l e : List ℕ) → Part l e → ((y : ℕ) → y ∈ e → y ∈ l) → prefix l e ≡ length l
  unfolding prefix
  prefix-all [] e p k = refl
  prefix-all (x ∷ l) [] p k = absurd (p.within x (inl refl))
  prefix-all (x ∷ l) (y ∷ e) p k =
      by (eqb x y)
      (λ t. let q = eqb-true x y t in
      rw (t, prefix-all l e (tails q p) (λ w j. ⊎_elim (λ h. absurd (p.all_once.0 w j (sym q ∙ sym h))) (λ i. i) (k w (inr j)))))
      (λ t. absurd (lacks (eqb-false x y t) p (k y (inl refl))))

  -- one of e that l lacks comes before x, or is x
  pub record Stops (l e : List ℕ) (x : ℕ) : Type 0 where
    pub one : ℕ
    pub in_all : one ∈ e
    pub missing : ¬ (one ∈ l)
    pub first : le one x ≡ true

  -- all of e that l lacks comes after its first n places, and where l goes on some of that comes before the next
  pub record Agrees (l e : List ℕ) (n : ℕ) : Type 0 where
    pub fits : n ≤ length l
    pub later : (y j : ℕ) → y ∈ e → ¬ (y ∈ l) → j < n → le y (get_or l j 0) ≡ false
    pub stop : n < length l → Stops l e (get_or l n 0)

  pub prefix-agrees : (l e : List ℕ) (n : ℕ) → Part l e → Agrees l e n → prefix l e ≡ n
  unfolding prefix
  prefix-agrees [] e n p k = let h = k.fits in omega arith
  prefix-agrees (x ∷ l) [] n p k = absurd (p.within x (inl refl))
  prefix-agrees (x ∷ l) (y ∷ e) zero p k =
      by (eqb x y)
      (λ t. let q = eqb-true x y t in
      let s = k.stop (omega arith) in
      absurd (s.missing (inl (⊎_elim (λ h. h ∙ sym q) (λ j. O.antisym s.first (rw q (p.all_up.0 s.one j))) s.in_all))))
      (λ t. rw t)
  prefix-agrees (x ∷ l) (y ∷ e) (suc n) p k =
      by (eqb x y)
      (λ t. let q = eqb-true x y t in
      let still : (w : ℕ) → w ∈ e → ¬ (w ∈ l) → ¬ (w ∈ (x ∷ l)) = λ w j m. ⊎_elim (λ h. p.all_once.0 w j (sym q ∙ sym h)) m in
      rw (
        t,
        prefix-agrees l e n (tails q p) (record {
          fits = let h = k.fits in omega arith;
          later = λ w j i m h. k.later w (suc j) (inr i) (still w i m) (omega arith);
          stop = λ h. let s = k.stop (omega arith) in
              record {
                one = s.one;
                in_all = ⊎_elim (λ g. absurd (s.missing (inl (g ∙ sym q)))) (λ j. j) s.in_all;
                missing = λ j. s.missing (inr j);
                first = s.first;
              };
        }),
      ))
      (λ t. let n = eqb-false x y t in
      absurd (true≢false (sym (head_later n p) ∙ k.later y 0 (inl refl) (lacks n p) (omega arith))))
