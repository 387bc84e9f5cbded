-- What holds of the k least of a list: they are what `Least` says, and what changes where the list grows.
use mathlib.Core.Path.{◌≡◌, refl, sym, ap, ◌∙◌}
use mathlib.Core.Logic.{◌⊎◌, inl, inr, ⊎_elim, ⊎_map}
use mathlib.Core.Bool.{Bool, true, false, true≢false}
use mathlib.Core.List.{List, [], ◌∷◌, ◌++◌, append-nil, map}
use Prim.Native.Nat.{ℕ, zero, suc, ◌≤◌, ◌<◌, min}
use native.Mathlib.Omega.{arith}
use lib.ListN.{length, take, get_or, length-take, length-append}
use lib.Seq.{take-take, take_at, take_all}
use Rattle.rank.specs.Sort.{◌∈◌, Distinct, TotalOrder, Ascending, insert, sort, least, Least}
use Rattle.le.proofs.Chain.{by, lt_or_le}
use Rattle.rank.proofs.Members.{mem_take, pairwise_take, pairwise_at, take_map}
use Rattle.rank.proofs.Sort.{length_insert, length_sort, take_insert, kept, from-sort, to_sort, distinct-sort, insert_last, insert-before, sort_greatest, sort_map, le_refl, sort_middle, sort_snoc, ascending-sort}

-- ---- any test `le`

module _ {A : Type 0} (le : A → A → Bool) where
  pub length_least : (k : ℕ) (xs : List A) → length (least le k xs) ≡ min k (length xs)
  unfolding least
  length_least k xs = length-take k (sort le xs) ∙ ap (min k) (length_sort le xs)

  pub from-least : (z : A) (k : ℕ) (xs : List A) → z ∈ least le k xs → z ∈ xs
  unfolding least
  from-least z k xs h = from-sort le z xs (mem_take z k (sort le xs) h)

  -- a smaller limit gives a prefix
  pub least-prefix : (k m : ℕ) (xs : List A) → k ≤ m → take k (least le m xs) ≡ least le k xs
  unfolding least
  least-prefix k m xs h = take-take k m (sort le xs) h

  -- a limit past the length changes nothing: slices of min(limit, rows) hold what slices of the limit would
  pub enough : (k n : ℕ) (xs : List A) → length xs ≤ n → least le (min k n) xs ≡ least le k xs
  unfolding least
  enough k n xs h =
      let s : List A = sort le xs in
      let l = length_sort le xs in
      ⊎_elim
      (λ (p : k < n). let e : min k n ≡ k = omega arith in rw e)
      (λ (p : n ≤ k). let e : min k n ≡ n = omega arith in rw e (take_all n s (omega arith) ∙ sym (take_all k s (omega arith))))
      (lt_or_le k n)

  -- a full list whose greatest is y, and one element x more: x takes the place of y where it comes before y, and else
  -- nothing changes
  pub keep_less : (x y : A) (t : List A) → ((z : A) → z ∈ t → le z y ≡ true) → le y x ≡ false
      → take (length (y ∷ t)) (insert le x (sort le (y ∷ t))) ≡ sort le (x ∷ t)
  unfolding sort
  keep_less x y t h e =
      rw (sort_greatest le y t h, insert-before le x (sort le t) (y ∷ []) (λ z. ⊎_elim (λ p. rw p e) (λ m. absurd m)))
      (take_at (insert le x (sort le t)) (y ∷ []) (suc (length t)) (length_insert le x (sort le t) ∙ ap suc (length_sort le t)))

  pub keep-more : (x : A) (s : List A) → ((z : A) → z ∈ s → le z x ≡ true) → take (length s) (insert le x (sort le s)) ≡ sort le s
  keep-more x s h =
      rw (insert_last le x (sort le s) (λ z m. h z (from-sort le z s m))) (take_at (sort le s) (x ∷ []) (length s) (length_sort le s))

-- two tests that agree through f
pub least_map : {A B : Type 0} (le : A → A → Bool) (le' : B → B → Bool) (f : A → B) (k : ℕ) (xs : List A)
    → ((x y : A) → x ∈ xs → y ∈ xs → le' (f x) (f y) ≡ le x y) → least le' k (map f xs) ≡ map f (least le k xs)
unfolding least
least_map le le' f k xs h = rw (sort_map le le' f xs h) (take_map f k (sort le xs))

-- ---- a total order

module _ {A : Type 0} (le : A → A → Bool) (O : TotalOrder le) where
  -- one more element: only the k least so far matter
  pub least_snoc : (k : ℕ) (xs : List A) (x : A) → least le k (xs ++ x ∷ []) ≡ take k (insert le x (least le k xs))
  unfolding least
  least_snoc k xs x = rw (sort_snoc le O xs x) (take_insert le k x (sort le xs))

  -- what is not among the first k comes no earlier than these
  rest_later : (x y : A) (k : ℕ) (s : List A) → Ascending le s → x ∈ take k s → y ∈ s → (y ∈ take k s) ⊎ (le x y ≡ true)
  rest_later x y zero s a h m = absurd h
  rest_later x y (suc k) [] a h m = absurd h
  rest_later x y (suc k) (z ∷ s) a h (inl q) = inl (inl q)
  rest_later x y (suc k) (z ∷ s) a (inl p) (inr m) = inr (rw p (a.0 y m))
  rest_later x y (suc k) (z ∷ s) a (inr h) (inr m) = ⊎_map inr (λ p. p) (rest_later x y k s a.1 h m)

  pub least-is : (k : ℕ) (xs : List A) → Distinct xs → Least le k xs (least le k xs)
  unfolding least
  least-is k xs d = record {
    size = length_least le k xs;
    within = λ x. from-least le x k xs;
    distinct = pairwise_take _ k (sort le xs) (distinct-sort le xs d);
    ascending = pairwise_take _ k (sort le xs) (ascending-sort le O xs);
    others = λ x y h m n.
        let later = rest_later x y k (sort le xs) (ascending-sort le O xs) h (to_sort le y xs m) in
        by (le y x) (λ e. absurd (n (⊎_elim (λ t. t) (λ f. rw (O.antisym e f) h) later))) (λ e. e);
  }

  -- and nothing else is
  only : (k : ℕ) (s l : List A) → Ascending le s → Distinct s → Least le k s l → l ≡ take k s
  only zero s [] a d p = refl
  only zero s (x ∷ l) a d p = absurd (omega (arith, p.size))
  only (suc k) [] [] a d p = refl
  only (suc k) [] (x ∷ l) a d p = absurd (p.within x (inl refl))
  only (suc k) (y ∷ s) [] a d p = absurd (omega (arith, p.size))
  only (suc k) (y ∷ s) (x ∷ l) a d p =
      let first : le y x ≡ true = ⊎_elim (λ q. rw q (le_refl le O y)) (a.0 x) (p.within x (inl refl)) in
      let out : le x y ≡ false → ¬ (y ∈ (x ∷ l)) =
      λ f. ⊎_elim (λ q. true≢false (cc (le_refl le O y))) (λ m. true≢false (cc (p.ascending.0 y m))) in
      let e : x ≡ y = by (le x y) (λ f. O.antisym f first) (λ f. cc (p.others x y (inl refl) (inl refl) (out f))) in
      cc (only k s l a.1 d.1 (record {
        size = omega (arith, p.size);
        within = λ z m. ⊎_elim (λ q. absurd (p.distinct.0 z m (cc))) (λ t. t) (p.within z (inr m));
        distinct = p.distinct.1;
        ascending = p.ascending.1;
        others = λ z w m n o. p.others z w (inr m) (inr n) (⊎_elim (λ q. d.0 w n (cc)) o);
      }))

  pub least-only : (k : ℕ) (xs l : List A) → Distinct xs → Least le k xs l → l ≡ least le k xs
  unfolding least
  least-only k xs l d p = only k (sort le xs) l (ascending-sort le O xs) (distinct-sort le xs d) (record {
    size = p.size ∙ ap (min k) (sym (length_sort le xs));
    within = λ z m. to_sort le z xs (p.within z m);
    distinct = p.distinct;
    ascending = p.ascending;
    others = λ z w m n. p.others z w m (from-sort le w xs n);
  })

  -- ---- where the list grows

  earlier : (x : A) (s : List A) (i : ℕ) (d : A) → Ascending le s → i < length s → le (get_or (insert le x s) i d) (get_or s i d) ≡ true
  unfolding insert
  earlier x [] i d a h = absurd (omega arith)
  earlier x (y ∷ ys) zero d a h = by (le y x) (λ e. rw e (le_refl le O y)) (λ e. rw e (O.total e))
  earlier x (y ∷ ys) (suc i) d a h =
      by (le y x)
      (λ e. rw e (earlier x ys i d a.1 (omega arith)))
      (λ e. rw e (pairwise_at _ (y ∷ ys) d a i (suc i) (omega arith) h))

  -- each place has the same element or an earlier one
  pub more_earlier : (xs ys : List A) (i : ℕ) (d : A) → i < length xs → le (get_or (sort le (xs ++ ys)) i d) (get_or (sort le xs) i d) ≡ true
  more_earlier xs [] i d h = rw append-nil (le_refl le O (get_or (sort le xs) i d))
  more_earlier xs (y ∷ ys) i d h =
      let fits : i < length (sort le (xs ++ ys)) = omega (arith, length_sort le (xs ++ ys), length-append xs ys) in
      rw (sort_middle le O xs y ys)
      (O.trans (earlier y (sort le (xs ++ ys)) i d (ascending-sort le O (xs ++ ys)) fits) (more_earlier xs ys i d h))

  -- what is among the k least is new, or was among them
  pub more-kept : (z : A) (k : ℕ) (xs ys : List A) → z ∈ least le k (xs ++ ys) → (z ∈ least le k xs) ⊎ (z ∈ ys)
  unfolding least
  more-kept z k xs [] h = inl (rw append-nil at h)
  more-kept z k xs (y ∷ ys) h =
      ⊎_elim (λ p. inr (inl p)) (λ m. ⊎_map (λ p. p) inr (more-kept z k xs ys m))
      (kept le z y k (sort le (xs ++ ys)) (rw (sort_middle le O xs y ys) at h))
