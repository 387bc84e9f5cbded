-- Where the rows of a cache lie, and what the tests before them say.
use mathlib.Core.Path.{◌≡◌, sym}
use mathlib.Core.Bool.{true, false}
use mathlib.Core.List.{List}
use Prim.Native.Nat.{ℕ, suc, ◌+◌, ◌-◌, ◌*◌, ◌≤◌, ◌<◌}
use native.Mathlib.Nat.{suc-mul, mul-le-mul}
use native.Mathlib.Omega.{arith}
use lib.ListN.{length}
use lib.Dec.{eqb}
use lib.IntN.{ℤ}
use Rattle.std.specs.Prelude.{Some}
use Rattle.std.proofs.lemmas.Option.{none-some, same_Some}
use Rattle.le.proofs.Chain.{by, held}
use Rattle.config.specs.Told.{found}
use Rattle.config.specs.declared.Metric.{Metric}
use Rattle.quantization.specs.View.{valid_row}
use Rattle.row.specs.Answer.{view_of}
use Rattle.format.specs.Fields.{dimensions_of, rows_of}
use Rattle.config.proofs.Refusals.{not_zero}
use Rattle.format.proofs.Refusals.{or_else_lem}
use Rattle.cache_format.specs.Cache.{identity, row_length}
use Rattle.cache_format.specs.Open.{cache_head_ok, cache_head_number}
use Rattle.cache_format.specs.declared.Options.{Options}
use Rattle.cache_format.proofs.Opens.{head-long}
use Rattle.quantized_cache.specs.Size.{size_of, size_number}
use Rattle.quantized_cache.specs.Open.{row_start, RoomFor, cached_at, cached_ok, open_number}
use Rattle.quantized_cache.proofs.Sizes.{Passed, passed}

-- row n of a cache with room for all rows: the next starts where it ends, and it ends before the CRC-32
pub record Lies (size rows dimensions n : ℕ) : Type 0 where
  pub next : row_start size rows dimensions n + row_length dimensions ≡ row_start size rows dimensions (n + 1)
  pub within : row_start size rows dimensions n + row_length dimensions + 4 ≤ size

pub lies : (size rows dimensions n : ℕ) → RoomFor size rows dimensions → n < rows → Lies size rows dimensions n
lies size rows dimensions n h l =
    let e : rows - n ≡ suc (rows - (n + 1)) = omega arith in
    let k : (rows - n) * row_length dimensions ≡ (rows - (n + 1)) * row_length dimensions + row_length dimensions =
    rw e (suc-mul (rows - (n + 1)) (row_length dimensions)) in
    let less : rows - n ≤ rows = omega arith in
    let same : row_length dimensions ≤ row_length dimensions = omega arith in
    let w : (rows - n) * row_length dimensions ≤ rows * row_length dimensions = mul-le-mul less same in
    record { next = omega (arith, k, w, h); within = omega (arith, k, w, h) }

pub first-start : (size rows dimensions : ℕ) → size - 4 - rows * row_length dimensions ≡ row_start size rows dimensions 0
first-start size rows dimensions = let e : rows - 0 ≡ rows = omega arith in rw e

pub ok_row : (levels : ℕ) (metric : Metric) (rows dimensions : ℕ) (cache : List ℕ) (n : ℕ) {xs : List ℤ} → let r = cached_at rows dimensions cache n in xs ≡ r.codes
    → valid_row levels metric (view_of r.scale r.norm xs) ≡ cached_ok levels metric rows dimensions cache n
unfolding cached_ok
ok_row levels metric rows dimensions cache n e = rw e

-- what the walk over the rows finds: the lowest that is bad, or none
pub some_bad : (n first : ℕ) {bad : ℕ} → Some bad ≡ found n first → (eqb first n ≡ false) × (bad ≡ first)
some_bad n first {bad} h =
    by (eqb first n) (λ e. absurd (none-some bad (sym (rw e at h)))) (λ e. (e, same_Some bad first (rw e at h)))

pub none-bad : (n first : ℕ) → ((x : ℕ) → found n first ≡ Some x → ⊥) → eqb first n ≡ true
none-bad n first h = by (eqb first n) (λ e. e) (λ e. absurd (h first (rw e)))

-- a cache that passes the tests before the rows has the library's size
pub record HeadPassed (m : List ℕ) (expected room : ℕ) (cache platform root : List ℕ) (o : Options) : Type 0 where
  pub library : Passed m expected room platform root o
  pub size : length cache ≡ size_of m platform root
  pub rows : RoomFor (length cache) (rows_of m) (dimensions_of m)

pub head_passed : (m : List ℕ) (expected room : ℕ) (cache platform root : List ℕ) (o : Options) → open_number m expected room cache platform root o ≡ 0
    → HeadPassed m expected room cache platform root o
unfolding open_number cache_head_number
head_passed m expected room cache platform root o h =
    let size = size_of m platform root in
    let p = or_else_lem (size_number m expected room platform root o) (cache_head_number 1 size (identity platform root m) cache) h in
    let l = head-long 1 size cache (held (cache_head_ok 1 size cache) not_zero p.1).0 in
    record { library = passed m expected room platform root o p.0; size = l; rows = rw l (omega arith) }
