-- Rows that were kept by one key, sorted by their number and then by another key.
use mathlib.Core.Path.{◌≡◌, sym, ap, ◌∙◌}
use mathlib.Core.List.Permᴰ
use mathlib.Core.List.{List, map}
use Prim.Native.Nat.{ℕ, ◌^◌, ◌<◌, ◌%◌}
use lib.Dec.{leb}
use lib.ListN.{length, length-map}
use Rattle.rank.specs.Sort.{◌∈◌, sort, least}
use Rattle.rank.specs.Limit.{by_key}
use Rattle.rank.specs.Pairs.{pairs}
use Rattle.rank.proofs.Sort.{sort_perm, perm_sort, sort-sort, from-sort}
use Rattle.rank.proofs.Least.{from-least}
use Rattle.rank.proofs.Numbers.{leb_order}
use Rattle.rank.proofs.ByKey.{order}
use Rattle.rank.proofs.Pairs.{packed, unpack_pairs, map_pairs, pairs-rows, sort-pack, least-pack}

-- keys and rows that, sorted, are ls and cs: the rows alone, sorted, are cs, sorted
pub rows_alone : (ks rs ls cs : List ℕ) → length ks ≡ length rs → length ls ≡ length cs → ((r : ℕ) → r ∈ rs → r < 2 ^ 64)
    → ((r : ℕ) → r ∈ cs → r < 2 ^ 64) → sort leb (pairs ks rs) ≡ pairs ls cs → sort leb rs ≡ sort leb cs
rows_alone ks rs ls cs h g i j e =
    let row : ℕ → ℕ = λ v. v % 2 ^ 64 in
    ap (sort leb) (sym (unpack_pairs ks rs h i).1) ∙ sym (perm_sort leb leb_order (Permᴰ.map row (sort_perm leb (pairs ks rs))))
    ∙ ap (λ l. sort leb (map row l)) e ∙ ap (sort leb) (unpack_pairs ls cs g j).1

module _ (key : ℕ → ℕ) (rows : List ℕ) (fit : (r : ℕ) → r ∈ rows → r < 2 ^ 64) where
  -- what a heap keeps of rows with their keys: the k least rows, in the order of the rows
  pub rows_by_row : (k : ℕ) (ks rs : List ℕ) → length ks ≡ length rs → ((r : ℕ) → r ∈ rs → r < 2 ^ 64)
      → sort leb (pairs ks rs) ≡ least leb k (map (packed key) rows) → sort leb rs ≡ sort leb (least (by_key key) k rows)
  rows_by_row k ks rs h i e =
      let C : List ℕ = least (by_key key) k rows in
      rows_alone ks rs (map key C) C h (length-map C key) i (λ r m. fit r (from-least (by_key key) r k rows m))
      (e ∙ least-pack key rows fit k ∙ sym (map_pairs key C))

  -- rows in the order of the rows, each with its key, sorted as pairs to e and f: the rows by key
  pub resorted : (ks e f : List ℕ) → ks ≡ map key (sort leb rows) → length e ≡ length f → ((r : ℕ) → r ∈ f → r < 2 ^ 64)
      → pairs e f ≡ sort leb (pairs ks (sort leb rows)) → (e ≡ map key (sort (by_key key) rows)) × (f ≡ sort (by_key key) rows)
  resorted ks e f k h i p =
      let R : List ℕ = sort leb rows in
      let fits : (r : ℕ) → r ∈ R → r < 2 ^ 64 = λ r m. fit r (from-sort leb r rows m) in
      let q = pairs-rows key (sort (by_key key) R) e f h i (λ r m. fits r (from-sort (by_key key) r R m))
      (p ∙ ap (λ l. sort leb (pairs l R)) k ∙ ap (sort leb) (map_pairs key R) ∙ sort-pack key R fits) in
      rw (sort-sort (by_key key) (order key) leb rows) at q
