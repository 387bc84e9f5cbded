-- A row's key: its parts, and its order.
use mathlib.Core.Path.{◌≡◌, refl, sym, ◌∙◌}
use mathlib.Core.Logic.{⊎_elim}
use mathlib.Core.Bool.{true}
use mathlib.Core.List.{List, [], ◌∷◌, ◌++◌, map, map-append}
use Prim.Native.Nat.{ℕ, ◌+◌, ◌*◌, ◌≤◌, ◌<◌}
use native.Mathlib.Omega.{arith}
use lib.Dec.{leb, eqb}
use lib.ListN.{length, take, drop, length-append, length-drop, length-map}
use lib.Seq.{take_at}
use borrow.Author.Tests.{le-leb, lt-leb, eqb-true, eqb-false}
use Rattle.le.proofs.Chain.{by, lt_or_le}
use Rattle.rank.specs.Sort.{◌∈◌, sort}
use Rattle.rank.specs.Limit.{by_key}
use Rattle.rank.specs.Rows.{passing}
use Rattle.rank.proofs.Sort.{sort_map, from-sort, length_sort}
use Rattle.rank.proofs.Rows.{passing_pass, passing-more, count-all}
use Rattle.format.specs.Fields.{rows_of, segment_at, offset_at}
use Rattle.entries.specs.Plan.{rows_ok}
use Rattle.entries.proofs.Entries.{entered}
use Rattle.manifest.specs.Tiling.{position, physical}
use Rattle.manifest.specs.Scratch.{key, key_segment, key_row, ordered, row_keys}

pub row_of_lem : (m : List ℕ) (r : ℕ) → r < 1048576 → key_row (key m r) ≡ r
unfolding key key_row
row_of_lem m r h = omega arith

pub segment_of : (m : List ℕ) (r : ℕ) → r < 1048576 → offset_at m r < 67108864 → key_segment (key m r) ≡ segment_at m r
unfolding key key_segment
segment_of m r h k = omega arith

leb_alike : (a b c d : ℕ) → (a ≤ b → c ≤ d) → (c ≤ d → a ≤ b) → leb a b ≡ leb c d
leb_alike a b c d f g =
    ⊎_elim (λ (h : b < a). lt-leb a b h ∙ sym (lt-leb c d (⊎_elim {C = d < c} (λ i. i) (λ (k : c ≤ d). let j = g k in absurd (omega (arith, j))) (lt_or_le d c))))
    (λ (h : a ≤ b). le-leb a b h ∙ sym (le-leb c d (f h))) (lt_or_le b a)

pub key-order : (m : List ℕ) (x y : ℕ) → x < 1048576 → y < 1048576 → offset_at m x < 67108864 → offset_at m y < 67108864
    → leb (key m x) (key m y) ≡ by_key (position m) x y
unfolding key position by_key
key-order m x y hx hy ox oy =
    let p = segment_at m x * 4294967296 + offset_at m x in
    let q = segment_at m y * 4294967296 + offset_at m y in
    by (eqb p q)
    (λ e. let h = eqb-true p q e in rw e (leb_alike (key m x) (key m y) x y (λ k. omega (arith, h, k)) (λ k. omega (arith, h, k))))
    (λ e. let h = eqb-false p q e in rw e (leb_alike (key m x) (key m y) p q (λ k. omega (arith, h, k)) (λ k. omega (arith, h, k))))

-- the keys of all rows below n
pub count-keys : (m : List ℕ) (n : ℕ) → length (map (key m) (passing (λ r. true) n)) ≡ n
count-keys m n = length-map (passing (λ r. true) n) (key m) ∙ count-all (λ r. true) n (λ r l. refl)

pub keys-more : (m : List ℕ) (n : ℕ) → map (key m) (passing (λ r. true) (n + 1)) ≡ map (key m) (passing (λ r. true) n) ++ key m n ∷ []
keys-more m n = rw (passing-more (λ r. true) n refl) (map-append (key m) (passing (λ r. true) n) (n ∷ []))

-- the rows of a library whose entries keep their rules
module _ (m : List ℕ) (ok : rows_ok m ≡ true) (few : rows_of m ≤ 1000000) where
  pub small : {r : ℕ} → r < rows_of m → r < 1048576
  small h = omega arith

  pub near : {r : ℕ} → r < rows_of m → offset_at m r < 67108864
  near {r} h = let e = entered m r ok h in omega (arith, e.end, e.bound)

  pub in_rows : (r : ℕ) → r ∈ physical m → r < rows_of m
  unfolding physical
  in_rows r h = (passing_pass (λ r. true) (rows_of m) r (from-sort (by_key (position m)) r (passing (λ r. true) (rows_of m)) h)).0

  pub sort-keys : sort leb (map (key m) (passing (λ r. true) (rows_of m))) ≡ row_keys m
  unfolding physical
  sort-keys = sort_map (by_key (position m)) leb (key m) (passing (λ r. true) (rows_of m))
      (λ x y p q. let hx = (passing_pass (λ r. true) (rows_of m) x p).0 in let hy = (passing_pass (λ r. true) (rows_of m) y q).0 in
      key-order m x y (small hx) (small hy) (near hx) (near hy))

length_physical : (m : List ℕ) → length (physical m) ≡ rows_of m
unfolding physical
length_physical m = length_sort (by_key (position m)) (passing (λ r. true) (rows_of m)) ∙ count-all (λ r. true) (rows_of m) (λ r l. refl)

length_keys : (m : List ℕ) → length (row_keys m) ≡ rows_of m
length_keys m = length-map (physical m) (key m) ∙ length_physical m

pub length_ordered : (m t : List ℕ) → rows_of m ≤ length t → length (ordered m t) ≡ length t
length_ordered m t h = let e = length_keys m in simp (length-append, length-drop) (omega (arith, e))

pub take_ordered : (m t : List ℕ) → take (rows_of m) (ordered m t) ≡ row_keys m
take_ordered m t = take_at (row_keys m) (drop (rows_of m) t) (rows_of m) (length_keys m)
