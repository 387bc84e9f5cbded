-- A scan over rows: each row that passes goes to `keep_best` with its key, and what is kept, sorted, is the least rows
-- by key: document 01's candidates, where the slices' length is the limit.
use mathlib.Core.Path.{◌≡◌}
use mathlib.Core.Bool.{Bool, true, false}
use mathlib.Core.List.{List, map, map-append}
use Prim.Native.Nat.{ℕ, ◌+◌, ◌^◌, ◌≤◌, ◌<◌}
use native.Mathlib.Omega.{arith}
use lib.Dec.{leb}
use lib.ListN.{length, take}
use Rattle.rank.specs.Sort.{◌∈◌, sort, least}
use Rattle.rank.specs.Limit.{by_key}
use Rattle.rank.specs.Rows.{passing}
use Rattle.rank.specs.Pairs.{pack, pairs}
use Rattle.rank.specs.Heap.{BestKept}
use Rattle.rank.proofs.Rows.{passing-more, passing_skip, passing_pass}
use Rattle.rank.proofs.Pairs.{packed, least-rows}
use Rattle.rank.proofs.Bounded.{Holds}
use Rattle.rank.proofs.Two.{more2, finish2}

module _ (ok : ℕ → Bool) (key : ℕ → ℕ) (ks rs : List ℕ) (same : length ks ≡ length rs) (i n : ℕ)
    (H : Holds (map (packed key) (passing ok i)) (pairs ks rs) n) where
  -- row i passes and is kept, or does not pass
  pub keep_row : ok i ≡ true → (b c : List ℕ) (m : ℕ) → BestKept (pairs ks rs) n (pack (key i) i) (pairs b c) m → length b ≡ length ks
      → length c ≡ length rs → (m ≤ length b) × Holds (map (packed key) (passing ok (i + 1))) (pairs b c) m
  keep_row e b c m K lb lc =
      rw (passing-more ok i e, map-append) (more2 ks rs same (map (packed key) (passing ok i)) n (key i) i b c m H K lb lc)

  pub skip_row : ok i ≡ false → Holds (map (packed key) (passing ok (i + 1))) (pairs ks rs) n
  skip_row e = rw (passing_skip ok i e) H

  -- the end: the keys and rows that are kept are sorted to e and f
  pub sorted_rows : i ≤ 2 ^ 64 → (e f : List ℕ) → length e ≡ length f → ((r : ℕ) → r ∈ f → r < 2 ^ 64)
      → pairs e f ≡ sort leb (pairs (take n ks) (take n rs))
      → (e ≡ map key (least (by_key key) (length ks) (passing ok i))) × (f ≡ least (by_key key) (length ks) (passing ok i))
  sorted_rows l e f h b s =
      least-rows key (passing ok i) (λ r m. omega (arith, passing_pass ok i r m)) (length ks) e f h b
      (finish2 ks rs same (map (packed key) (passing ok i)) e f n H s)
