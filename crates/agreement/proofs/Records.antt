-- The records of the eligible rows by rising row, as a loop over all rows comes to them.
use mathlib.Core.Path.{◌≡◌, refl, sym, ap, ◌∙◌}
use mathlib.Core.Logic.{⊎_elim}
use mathlib.Core.Bool.{Bool, true, false}
use mathlib.Core.List.{List, [], ◌∷◌}
use Prim.Native.Nat.{ℕ, zero, suc, ◌+◌, ◌<◌}
use native.Mathlib.Omega.{arith}
use lib.Dec.{leb}
use lib.Ieee.{Float}
use lib.ListN.{length, get_or, length-append, get_or-append}
use lib.Seq.{get_or-append_seam}
use borrow.Author.Tests.{eq-eqb, le-leb}
use Rattle.le.proofs.Chain.{by}
use Rattle.rank.specs.Sort.{sort}
use Rattle.rank.specs.Rows.{passing}
use Rattle.rank.proofs.Sort.{sort_snoc, insert_last}
use Rattle.rank.proofs.Numbers.{eq_or_ne, leb_order}
use Rattle.rank.proofs.Rows.{passing_pass, passing-none, count-more, count_skip}
use Rattle.config.specs.Refusal.{Refusal, none}
use Rattle.format.specs.Fields.{rows_of}
use Rattle.format.proofs.First.{Reached, reached_start, reached_turn}
use Rattle.format.proofs.Refusals.{passes, refusal-stop, refusal-end}
use Rattle.search_spec.specs.Scan.{record_refusal, records_refusal}

-- rows that pass are in order,
sorted_passing : (ok : ℕ → Bool) (n : ℕ) → sort leb (passing ok n) ≡ passing ok n
unfolding passing sort
sorted_passing ok zero = refl
sorted_passing ok (suc n) =
    let i = sorted_passing ok n in
    by (ok n)
    (λ e. rw e (sort_snoc leb leb_order (passing ok n) n ∙ rw i (insert_last leb n (passing ok n) (λ y m. le-leb y n (let p = (passing_pass ok n y m).0 in omega arith)))))
    (λ e. rw e i)

-- and each stands behind those below it
stands : (ok : ℕ → Bool) (n r : ℕ) → r < n → ok r ≡ true → (length (passing ok r) < length (passing ok n)) × (get_or (passing ok n) (length (passing ok r)) 0 ≡ r)
unfolding passing
stands ok zero r h e = absurd (omega arith)
stands ok (suc n) r h e =
    let one = length-append (passing ok n) (n ∷ []) in
    ⊎_elim
    (λ (q : r ≡ n). rw (rw q at e, q) (omega (arith, one), get_or-append_seam (passing ok n) n [] 0))
    (λ q. let i = stands ok n r (omega (arith, q)) e in
    by (ok n)
    (λ f. rw f (omega (arith, one, i.0), get_or-append (passing ok n) (n ∷ []) 0 (length (passing ok r)) i.0 ∙ i.1))
    (λ f. rw f i))
    (eq_or_ne r n)

module _ (m s : List ℕ) (q : List Float) (ok : ℕ → Bool) where
  abbrev P : List ℕ
  P = passing ok (rows_of m)

  abbrev at : ℕ → Refusal
  at i = record_refusal m s q (get_or P i 0)

  -- the records of all eligible rows below row have passed
  abbrev pub RecordsTo : ℕ → Type 0
  RecordsTo row = Reached (passes at) (length P) (length (passing ok row))

  pub records-start : RecordsTo 0
  records-start = rw (passing-none ok) (reached_start (passes at) (length P))

  module _ {row : ℕ} (R : RecordsTo row) where
    pub records_skip : ok row ≡ false → RecordsTo (row + 1)
    records_skip e = rw (count_skip ok row e) R

    module _ (h : row < rows_of m) (e : ok row ≡ true) where
      abbrev here : at (length (passing ok row)) ≡ record_refusal m s q row
      here = ap (record_refusal m s q) (stands ok (rows_of m) row h e).1

      pub records_turn : (record_refusal m s q row).number ≡ 0 → RecordsTo (row + 1)
      records_turn z = rw (count-more ok row e) (reached_turn (stands ok (rows_of m) row h e).0 (eq-eqb (at (length (passing ok row))).number 0 (ap (λ (x : Refusal). x.number) here ∙ z)) R)

      pub records-stop : ((record_refusal m s q row).number ≡ 0 → ⊥) → record_refusal m s q row ≡ records_refusal m s q P
      unfolding records_refusal
      records-stop z = rw (sorted_passing ok (rows_of m)) (sym here ∙ refusal-stop at (length P) (stands ok (rows_of m) row h e).0 (λ y. z (ap (λ (x : Refusal). x.number) (sym here) ∙ y)) R)

    pub records-end : row ≡ rows_of m → none ≡ records_refusal m s q P
    unfolding records_refusal
    records-end g = rw (sorted_passing ok (rows_of m)) (refusal-end at (length P) (rw g (omega arith)) (rw g (omega arith)) R)
