-- The order of the ids handed in does not matter, and a cursor in the sorted ids finds the eligible rows.
use mathlib.Core.Path.{◌≡◌, refl, sym, ap, ◌∙◌, fun_ext}
use mathlib.Core.Logic.{⊎_elim, ◌≢◌}
use mathlib.Core.Bool.{Bool, true, false, ◌&&◌, true≢false}
use mathlib.Core.List.{List, ◌++◌}
use Prim.Native.Nat.{ℕ, ◌+◌, ◌≤◌, ◌<◌}
use native.Mathlib.Omega.{arith}
use lib.Dec.{leb, eqb}
use lib.ListN.{length, take, get_or}
use lib.Seq.{take_at}
use denote.Bor.{Bor}
use mir.Val.{bool_byte}
use borrow.Author.Tests.{leb-true, eqb-true, eqb-false}
use Rattle.std.specs.Prelude.{Option, Some, None}
use Rattle.std.specs.Option.{is_some}
use Rattle.le.proofs.Chain.{by, lt_or_le}
use Rattle.rank.specs.Sort.{sort, Ascending}
use Rattle.rank.specs.Limit.{among}
use Rattle.rank.specs.Rows.{passing}
use Rattle.rank.proofs.Members.{mem-get_or, all-at, pairwise_at}
use Rattle.rank.proofs.Rows.{passing-none, count-more, count_skip, count_most, count-all}
use Rattle.rank.proofs.Shared.{to_among, not_among, among-sort}
use Rattle.rank.proofs.Sort.{length_sort, ascending-sort}
use Rattle.rank.proofs.Numbers.{eq_or_ne, leb_order}
use Rattle.format.specs.Fields.{rows_of, id_at}
use Rattle.entries.specs.Plan.{rows_ok}
use Rattle.entries.proofs.Entries.{ids_rise}
use Rattle.search_spec.specs.Lent.{Wanted, every, only, wanted_of, handed, wants, everyone}
use Rattle.search_spec.specs.Lists.{is_eligible, eligible}
use Rattle.eligible.specs.Walk.{Behind, Stepped, CursorAt, Turned, ids_of, in_order, sorted_ids}
use Rattle.eligible.specs.declared.Found.{Found}

-- ---- the order of the ids does not matter

pub sorted_same : (ids : List ℕ) (allowed : ℕ → Bool) (m : List ℕ) → is_eligible (only (sort leb ids)) allowed m ≡ is_eligible (only ids) allowed m
unfolding is_eligible wants
sorted_same ids allowed m = fun_ext (λ r. ap (λ b. allowed (id_at m r) && b) (among-sort leb (id_at m r) ids))

pub ordered_same : (w : Wanted) (allowed : ℕ → Bool) (m : List ℕ) → is_eligible (in_order w) allowed m ≡ is_eligible w allowed m
ordered_same every allowed m = refl
ordered_same (only ids) allowed m = sorted_same ids allowed m

-- and so the eligible rows are the same
pub ordered-rows : (w : Wanted) (allowed : ℕ → Bool) (m : List ℕ) → eligible (in_order w) allowed m ≡ eligible w allowed m
unfolding eligible
ordered-rows w allowed m = rw (ordered_same w allowed m)

pub ordered-rises : (w : Wanted) → Ascending leb (sorted_ids w)
ordered-rises every = tt
ordered-rises (only ids) = ascending-sort leb leb_order ids

-- they are what stands at the front of the id slice
length_ordered : (w : Wanted) → length (sorted_ids w) ≡ handed w
length_ordered every = refl
length_ordered (only ids) = length_sort leb ids

pub front : (w : Wanted) (t : List ℕ) → take (handed w) (sorted_ids w ++ t) ≡ sorted_ids w
front w t = take_at (sorted_ids w) t (handed w) (length_ordered w)

-- ---- what the cursor has passed, and where it stands

nowhere : (x : ℕ) (s : List ℕ) → ((i : ℕ) → i < length s → get_or s i 0 ≢ x) → among x s ≡ false
nowhere x s h = not_among x s (λ m. all-at (λ z. z ≢ x) s 0 h x m refl)

ascends : (s : List ℕ) → Ascending leb s → (i j : ℕ) → i ≤ j → j < length s → get_or s i 0 ≤ get_or s j 0
ascends s A i j h l =
    ⊎_elim
    (λ (e : i ≡ j). rw e (omega arith))
    (λ n. leb-true (get_or s i 0) (get_or s j 0) (pairwise_at (λ x y. leb x y ≡ true) s 0 A i j (omega (arith, n)) l))
    (eq_or_ne i j)

module _ {s : List ℕ} {at id : ℕ} (B : Behind s at id) where
  pub stands : Ascending leb s → at < length s → id ≤ get_or s at 0 → Stepped s id (record { eligible = eqb (get_or s at 0) id; cursor = at })
  stands A l h = record {
    is =
        by (eqb (get_or s at 0) id)
        (λ t. t ∙ sym (to_among id s (rw (eqb-true (get_or s at 0) id t) at (mem-get_or s at 0 l))))
        (λ t. t ∙ sym (nowhere id s (λ i k e.
        ⊎_elim
        (λ p. omega (arith, e, B.below i p))
        (λ q. eqb-false (get_or s at 0) id t (omega (arith, e, h, ascends s A at i q k)))
        (lt_or_le i at))));
    behind = B;
  }

  pub ended : length s ≤ at → Stepped s id (record { eligible = false; cursor = at })
  ended h = record { is = sym (nowhere id s (λ i k e. omega (arith, e, B.below i (omega arith)))); behind = B }

-- ---- along the rows

pub begun : (m s : List ℕ) → CursorAt m s 0 0
begun m s = record { fits = omega arith; below = λ i r h. absurd (omega arith) }

module _ {m : List ℕ} {w : Option (Bor (List ℕ))} {row : ℕ} where
  pub turned_every : {cursor : ℕ} → w ≡ None → CursorAt m (ids_of (wanted_of w)) cursor row → Turned m (wanted_of w) row (record { eligible = true; cursor = cursor })
  unfolding is_eligible wants
  turned_every e W = rw e (record { is = refl; next = record { fits = (rw e at W).fits; below = λ i r h k l. (rw e at W).below i r h (omega arith) l } })

  pub turned_only : {s : Bor (List ℕ)} {f : Found} → w ≡ Some s → rows_ok m ≡ true → row < rows_of m → Stepped s.now (id_at m row) f → Turned m (wanted_of w) row f
  unfolding is_eligible wants
  turned_only {f = f} e ok l S = rw e (record {
    is = S.is;
    next = record {
      fits = S.behind.fits;
      below = λ i r h k j. omega (arith, S.behind.below i h, ids_rise m row r ok (omega arith) j);
    };
  })

-- ---- how many are eligible before a row

module _ (ok : ℕ → Bool) where
  pub count_none : 0 ≡ length (passing ok 0)
  count_none = sym (ap length (passing-none ok))

  pub count_next : {b : Bool} (row : ℕ) {total : ℕ} → total ≡ length (passing ok row) → b ≡ ok row → total + bool_byte b ≡ length (passing ok (row + 1))
  count_next {b = true} row t e = omega (arith, t, count-more ok row (sym e))
  count_next {b = false} row t e = omega (arith, t, count_skip ok row (sym e))

  pub count_low : {b : Bool} (row : ℕ) {total : ℕ} → total ≡ length (passing ok row) → b ≡ ok row → total + bool_byte b ≤ row + 1
  count_low row t e = rw (count_next row t e) (count_most ok (row + 1))

-- no list is lent
pub none-every : (w : Option (Bor (List ℕ))) → is_some w ≡ false → wanted_of w ≡ every
none-every None h = refl
none-every (Some ids) h = absurd (true≢false h)

pub all-eligible : (m : List ℕ) → rows_of m ≡ length (eligible every everyone m)
unfolding is_eligible wants eligible
all-eligible m = sym (count-all (is_eligible every everyone m) (rows_of m) (λ r l. refl))
