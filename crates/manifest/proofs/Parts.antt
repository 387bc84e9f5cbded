-- The rows of one segment after the other in the list of all.
use mathlib.Core.Path.{◌≡◌, refl, sym, ap, ◌∙◌}
use mathlib.Core.Logic.{inl, inr, ⊎_elim}
use mathlib.Core.Bool.{Bool, true, false, cond, true≢false}
use mathlib.Core.List.{List, [], ◌∷◌, ◌++◌, map}
use Prim.Native.Nat.{ℕ, zero, suc, ◌+◌, ◌-◌, ◌≤◌, ◌<◌}
use native.Mathlib.Omega.{arith}
use lib.Dec.{leb, eqb}
use lib.ListN.{length, take, drop, get_or, length-map, get_or-map, length-drop}
use lib.Seq.{drop-drop, take-length}
use borrow.Author.Tests.{le-leb, lt-leb, ne_eqb, leb-true, eqb-true, eqb-false, eq-eqb}
use Rattle.le.proofs.Chain.{by}
use Rattle.rank.specs.Sort.{◌∈◌, Pairwise, TotalOrder, Ascending, insert, sort}
use Rattle.rank.specs.Limit.{by_key}
use Rattle.rank.specs.Rows.{passing}
use Rattle.rank.proofs.Sort.{ascending-sort, to_sort, insert-first}
use Rattle.rank.proofs.Rows.{passing-complete}
use Rattle.rank.proofs.ByKey.{order, key-rises}
use Rattle.rank.proofs.Members.{take_map, mem-get_or}
use Rattle.format.specs.Fields.{rows_of, segment_at, offset_at}
use Rattle.entries.specs.Plan.{rows_ok}
use Rattle.manifest.specs.Tiling.{position, physical, in_segment}
use Rattle.manifest.specs.Scratch.{key, key_segment, key_row, run, Below, row_keys}
use Rattle.manifest.proofs.Keys.{segment_of, row_of_lem, small, near, in_rows}

-- ---- what is kept of a list: the elements that pass
abbrev pub keep : (ℕ → Bool) → List ℕ → List ℕ
keep ok [] = []
keep ok (r ∷ rs) = cond (ok r) (r ∷ keep ok rs) (keep ok rs)

pub from-keep : (ok : ℕ → Bool) (z : ℕ) (l : List ℕ) → z ∈ keep ok l → (z ∈ l) × (ok z ≡ true)
from-keep ok z [] h = absurd h
from-keep ok z (x ∷ xs) h =
    by (ok x)
    (λ p. let k : z ∈ (x ∷ keep ok xs) = rw p at h in
    ⊎_elim {C = (z ∈ (x ∷ xs)) × (ok z ≡ true)} (λ (e : z ≡ x). (inl e, rw e p)) (λ i. let t = from-keep ok z xs i in (inr t.0, t.1)) k)
    (λ p. let k : z ∈ keep ok xs = rw p at h in let t = from-keep ok z xs k in (inr t.0, t.1))

to_keep : (ok : ℕ → Bool) (z : ℕ) (l : List ℕ) → z ∈ l → ok z ≡ true → z ∈ keep ok l
to_keep ok z [] h e = absurd h
to_keep ok z (x ∷ xs) h e =
    by (ok x)
    (λ p. rw p (⊎_elim {C = z ∈ (x ∷ keep ok xs)} (λ (q : z ≡ x). inl q) (λ i. inr (to_keep ok z xs i e)) h))
    (λ p. rw p (⊎_elim {C = z ∈ keep ok xs} (λ (q : z ≡ x). absurd (true≢false (sym e ∙ rw q p))) (λ i. to_keep ok z xs i e) h))

-- sorting goes through keeping
module _ (le : ℕ → ℕ → Bool) (o : TotalOrder le) (ok : ℕ → Bool) where
  keep-insert : (x : ℕ) (s : List ℕ) → Ascending le s → keep ok (insert le x s) ≡ cond (ok x) (insert le x (keep ok s)) (keep ok s)
  unfolding insert
  keep-insert x [] h = refl
  keep-insert x (y ∷ ys) h =
      by (le y x)
      (λ e. rw (e, keep-insert x ys h.1) (by (ok x) (λ p. rw p (by (ok y) (λ q. rw (q, e)) (λ q. rw q))) (λ p. rw p)))
      (λ e. let first : (z : ℕ) → z ∈ keep ok (y ∷ ys) → le x z ≡ true =
      λ z i. ⊎_elim {C = le x z ≡ true} (λ (q : z ≡ y). rw q (o.total e)) (λ j. o.trans (o.total e) (h.0 z j)) (from-keep ok z (y ∷ ys) i).0 in
      rw (e, insert-first le o x (keep ok (y ∷ ys)) first))

  keep-sort : (xs : List ℕ) → keep ok (sort le xs) ≡ sort le (keep ok xs)
  unfolding sort
  keep-sort [] = refl
  keep-sort (x ∷ xs) = rw (keep-insert x (sort le xs) (ascending-sort le o xs), keep-sort xs) (by (ok x) (λ e. rw e) (λ e. rw e))

keep_last : (ok : ℕ → Bool) (l : List ℕ) (n : ℕ) → keep ok (l ++ n ∷ []) ≡ cond (ok n) (keep ok l ++ n ∷ []) (keep ok l)
keep_last ok [] n = refl
keep_last ok (x ∷ xs) n = rw (keep_last ok xs n) (by (ok x) (λ e. rw e (by (ok n) (λ f. rw f) (λ f. rw f))) (λ e. rw e))

keep-passing : (ok : ℕ → Bool) (n : ℕ) → keep ok (passing (λ r. true) n) ≡ passing ok n
unfolding passing
keep-passing ok zero = refl
keep-passing ok (suc n) = rw (keep_last ok (passing (λ r. true) n) n, keep-passing ok n)

-- a segment's rows are those of all, by segment and offset, that lie there
in_segment-is : (m : List ℕ) (n : ℕ) → in_segment m n ≡ keep (λ r. eqb (segment_at m r) n) (physical m)
unfolding in_segment physical
in_segment-is m n =
    let ok : ℕ → Bool = λ r. eqb (segment_at m r) n in
    sym (keep-sort (by_key (position m)) (order (position m)) ok (passing (λ r. true) (rows_of m)) ∙ ap (sort (by_key (position m))) (keep-passing ok (rows_of m)))

-- each row is among all, and among those of its segment
pub of_all : (m : List ℕ) (r : ℕ) → r < rows_of m → r ∈ physical m
unfolding physical
of_all m r h = to_sort (by_key (position m)) r (passing (λ t. true) (rows_of m)) (passing-complete (λ t. true) (rows_of m) r h refl)

pub of_segment : (m : List ℕ) (r : ℕ) → r < rows_of m → r ∈ in_segment m (segment_at m r)
of_segment m r h = rw (in_segment-is m (segment_at m r)) (to_keep (λ t. eqb (segment_at m t) (segment_at m r)) r (physical m) (of_all m r h) (eq-eqb (segment_at m r) (segment_at m r) refl))

pub keep_all : (ok : ℕ → Bool) (l : List ℕ) → ((z : ℕ) → z ∈ l → ok z ≡ true) → keep ok l ≡ l
keep_all ok [] h = refl
keep_all ok (x ∷ xs) h = rw (h x (inl refl), keep_all ok xs (λ z i. h z (inr i)))

pub keep-none : (ok : ℕ → Bool) (l : List ℕ) → ((z : ℕ) → z ∈ l → ok z ≡ false) → keep ok l ≡ []
keep-none ok [] h = refl
keep-none ok (x ∷ xs) h = rw (h x (inl refl)) (keep-none ok xs (λ z i. h z (inr i)))

-- keeping less of what is kept
pub keep-keep : (p q : ℕ → Bool) (l : List ℕ) → ((z : ℕ) → p z ≡ true → q z ≡ true) → keep p (keep q l) ≡ keep p l
keep-keep p q [] h = refl
keep-keep p q (x ∷ xs) h =
    by (q x)
    (λ e. rw e (ap (λ t. cond (p x) (x ∷ t) t) (keep-keep p q xs h)))
    (λ e. by (p x) (λ f. absurd (true≢false (sym (h x f) ∙ e))) (λ f. rw (e, f) (keep-keep p q xs h)))

pairwise_keep : (R : ℕ → ℕ → Type 0) (ok : ℕ → Bool) (l : List ℕ) → Pairwise R l → Pairwise R (keep ok l)
pairwise_keep R ok [] h = h
pairwise_keep R ok (x ∷ xs) h =
    by (ok x)
    (λ e. rw e ((λ y i. h.0 y (from-keep ok y xs i).0), pairwise_keep R ok xs h.1))
    (λ e. rw e (pairwise_keep R ok xs h.1))

pairwise_within : (R S : ℕ → ℕ → Type 0) (l : List ℕ) → ((x y : ℕ) → x ∈ l → y ∈ l → R x y → S x y) → Pairwise R l → Pairwise S l
pairwise_within R S [] f h = tt
pairwise_within R S (x ∷ xs) f h = ((λ y i. f x y (inl refl) (inr i) (h.0 y i)), pairwise_within R S xs (λ y z i j. f y z (inr i) (inr j)) h.1)

drop_map : (f : ℕ → ℕ) (k : ℕ) (l : List ℕ) → drop k (map f l) ≡ map f (drop k l)
drop_map f zero l = refl
drop_map f (suc k) [] = refl
drop_map f (suc k) (x ∷ xs) = drop_map f k xs

-- ---- a list by rising segment, as keys
module _ (m : List ℕ) where
  abbrev Rising : List ℕ → Type 0
  Rising = Pairwise (λ x y. segment_at m x ≤ segment_at m y)

  -- from a segment on, the first rows are the segment's, and the rest are those of later ones
  run-part : (n : ℕ) (l : List ℕ) → ((r : ℕ) → r ∈ l → key_segment (key m r) ≡ segment_at m r) → Rising l → ((r : ℕ) → r ∈ l → n ≤ segment_at m r)
      → (take (run n (map (key m) l)) l ≡ keep (λ r. eqb (segment_at m r) n) l) × (drop (run n (map (key m) l)) l ≡ keep (λ r. leb (n + 1) (segment_at m r)) l)
  unfolding run
  run-part n [] s u h = (refl, refl)
  run-part n (r ∷ rs) s u h =
      by (eqb (segment_at m r) n)
      (λ e. let i = run-part n rs (λ z k. s z (inr k)) u.1 (λ z k. h z (inr k)) in
      let f = eqb-true (segment_at m r) n e in
      rw (s r (inl refl), e, lt-leb (n + 1) (segment_at m r) (omega (arith, f))) (ap (λ t. r ∷ t) i.0, i.1))
      (λ e. let f = eqb-false (segment_at m r) n e in
      let g = h r (inl refl) in
      let later : (z : ℕ) → z ∈ (r ∷ rs) → n < segment_at m z =
      λ z k. ⊎_elim {C = n < segment_at m z} (λ (q : z ≡ r). rw q (omega (arith, f, g))) (λ w. let v = u.0 z w in omega (arith, f, g, v)) k in
      let ne : (z : ℕ) → z ∈ rs → eqb (segment_at m z) n ≡ false = λ z k. let v = later z (inr k) in ne_eqb (segment_at m z) n (λ q. omega (arith, v, q)) in
      let up : (z : ℕ) → z ∈ (r ∷ rs) → leb (n + 1) (segment_at m z) ≡ true = λ z k. let v = later z k in le-leb (n + 1) (segment_at m z) (omega (arith, v)) in
      rw (s r (inl refl), e) (sym (keep-none (λ r. eqb (segment_at m r) n) rs ne), sym (keep_all (λ r. leb (n + 1) (segment_at m r)) (r ∷ rs) up)))

  -- the rows from segment n on
  abbrev pub from : ℕ → List ℕ
  from n = keep (λ r. leb n (segment_at m r)) (physical m)

  -- the position of a row rises with it, so its segment does
  segment-rises : (x y : ℕ) → offset_at m x < 67108864 → offset_at m y < 67108864 → by_key (position m) x y ≡ true → segment_at m x ≤ segment_at m y
  unfolding position
  segment-rises x y ox oy h =
      let le = key-rises (position m) x y h in
      omega (arith, le)

  run-within : (n : ℕ) (ks : List ℕ) → run n ks ≤ length ks
  unfolding run
  run-within n [] = omega arith
  run-within n (k ∷ ks) = by (eqb (key_segment k) n) (λ e. rw e (let h = run-within n ks in omega (arith, h))) (λ e. rw e (omega arith))

  -- what stands from i on in the keys of all rows
  pub record Held (keys : List ℕ) (i n : ℕ) : Type 0 where
    pub so : drop i keys ≡ map (key m) (from n)

  -- the rows of segment n are the first of them
  record Part (keys : List ℕ) (i n c : ℕ) : Type 0 where
    pub within : c ≤ length (drop i keys)
    pub part : take c (drop i keys) ≡ map (key m) (in_segment m n)
    pub rows : map key_row (take c (drop i keys)) ≡ in_segment m n
    pub below : Below (rows_of m) (take c (drop i keys))
    pub next : Held keys (i + c) (n + 1)

  -- the same of the keys from i to i + c
  pub record Found (keys : List ℕ) (i n c : ℕ) : Type 0 where
    pub ends : i + c ≤ length keys
    pub rows : map key_row (take ((i + c) - i) (drop i keys)) ≡ in_segment m n
    pub below : Below (rows_of m) (take ((i + c) - i) (drop i keys))
    pub next : Held keys (i + c) (n + 1)

  module _ (ok : rows_ok m ≡ true) (few : rows_of m ≤ 1000000) where
    rising : Rising (physical m)
    unfolding physical
    rising = pairwise_within _ _ (physical m)
        (λ x y i j. segment-rises x y (near m ok few (in_rows m ok few x i)) (near m ok few (in_rows m ok few y j)))
        (ascending-sort (by_key (position m)) (order (position m)) (passing (λ r. true) (rows_of m)))

    pub held_start : (keys : List ℕ) → keys ≡ row_keys m → Held keys 0 0
    held_start keys e = record { so = rw (e, keep_all (λ r. leb 0 (segment_at m r)) (physical m) (λ z i. le-leb 0 (segment_at m z) (omega arith))) }

    in_from : (n r : ℕ) → r ∈ from n → r < rows_of m
    in_from n r i = in_rows m ok few r (from-keep (λ r. leb n (segment_at m r)) r (physical m) i).0

    pub in_segment_lem : (n r : ℕ) → r ∈ in_segment m n → r < rows_of m
    in_segment_lem n r i = in_rows m ok few r (from-keep (λ r. eqb (segment_at m r) n) r (physical m) (rw (in_segment-is m n) at i)).0

    rows_back : (l : List ℕ) → ((r : ℕ) → r ∈ l → r < rows_of m) → map key_row (map (key m) l) ≡ l
    rows_back [] h = refl
    rows_back (r ∷ rs) h = rw (row_of_lem m r (small m ok few (h r (inl refl))), rows_back rs (λ z i. h z (inr i)))

    below_of : (ks l : List ℕ) → map key_row ks ≡ l → ((r : ℕ) → r ∈ l → r < rows_of m) → Below (rows_of m) ks
    below_of ks l e h =
        record {
          at = λ k q.
              let g : key_row (get_or ks k 0) ≡ get_or l k (key_row 0) = sym (get_or-map key_row ks k 0) ∙ ap (λ t. get_or t k (key_row 0)) e in
              let w : k < length l = rw (← e, length-map ks key_row) q in
              rw g (h (get_or l k (key_row 0)) (mem-get_or l k (key_row 0) w));
        }

    -- the keys of all rows in order
    pub all-keys : (keys : List ℕ) → keys ≡ row_keys m → (map key_row keys ≡ physical m) × Below (rows_of m) keys
    all-keys keys e =
        let r : map key_row keys ≡ physical m = rw e (rows_back (physical m) (in_rows m ok few)) in
        (r, below_of keys (physical m) r (in_rows m ok few))

    held-part : {keys : List ℕ} {i n c : ℕ} → Held keys i n → c ≡ run n (drop i keys) → Part keys i n c
    held-part {keys} {i} {n} {c} h e =
        let l = from n in
        let t = run-part n l
        (λ r k. segment_of m r (small m ok few (in_from n r k)) (near m ok few (in_from n r k)))
        (pairwise_keep (λ x y. segment_at m x ≤ segment_at m y) (λ r. leb n (segment_at m r)) (physical m) rising)
        (λ r k. leb-true n (segment_at m r) (from-keep (λ r. leb n (segment_at m r)) r (physical m) k).1) in
        let f : c ≡ run n (map (key m) l) = e ∙ ap (run n) h.so in
        let here = keep-keep (λ r. eqb (segment_at m r) n) (λ r. leb n (segment_at m r)) (physical m) (λ z q. let w = eqb-true (segment_at m z) n q in le-leb n (segment_at m z) (omega (arith, w))) in
        let after = keep-keep (λ r. leb (n + 1) (segment_at m r)) (λ r. leb n (segment_at m r)) (physical m) (λ z q. let w = leb-true (n + 1) (segment_at m z) q in le-leb n (segment_at m z) (omega (arith, w))) in
        let part : take c (drop i keys) ≡ map (key m) (in_segment m n) = rw (h.so, f, take_map (key m) (run n (map (key m) l)) l, t.0, here, in_segment-is m n) in
        let rows : map key_row (take c (drop i keys)) ≡ in_segment m n = rw part (rows_back (in_segment m n) (in_segment_lem n)) in
        record {
          within = rw e (run-within n (drop i keys));
          part = part;
          rows = rows;
          below = below_of (take c (drop i keys)) (in_segment m n) rows (in_segment_lem n);
          next = record { so = sym (drop-drop c i keys) ∙ rw (h.so, f, drop_map (key m) (run n (map (key m) l)) l, t.1, after) };
        }

    -- what a run over the rest of the keys finds: where the segment's keys end, their rows, and what stands after them
    pub found : {keys : List ℕ} {i n c : ℕ} → i ≤ length keys → Held keys i n → c ≡ run n (take (length keys - i) (drop i keys)) → Found keys i n c
    found {keys} {i} {n} {c} l h e =
        let w : take (length keys - i) (drop i keys) ≡ drop i keys = rw (← length-drop i keys) (take-length (drop i keys)) in
        let p = held-part h (e ∙ ap (run n) w) in
        let k = rw (length-drop i keys) at p.within in
        let b : (i + c) - i ≡ c = omega arith in
        record { ends = omega (arith, k, l); rows = rw b p.rows; below = rw b p.below; next = p.next }
