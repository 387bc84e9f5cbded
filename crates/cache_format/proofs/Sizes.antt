-- What sizing's tests say of the numbers.
use mathlib.Core.Path.{◌≡◌}
use mathlib.Core.Bool.{true}
use Prim.Native.Nat.{ℕ, ◌+◌, ◌*◌, ◌≤◌}
use native.Mathlib.Nat.{mul-le-mul}
use native.Mathlib.Omega.{arith}
use lib.ListN.{length}
use borrow.Author.Tests.{leb-true, le-leb}
use Rattle.le.proofs.Chain.{held}
use Rattle.utf8.specs.Grammar.{span}
use Rattle.config.specs.Limits.{max_code_bytes, cache_bytes_limit}
use Rattle.format.proofs.Heads.{both, in_range}
use Rattle.format.proofs.Refusals.{or_else_lem}
use Rattle.config.proofs.Refusals.{not_zero}
use Rattle.cache_format.specs.Cache.{identity_length, cache_between, row_length, cache_size}
use Rattle.cache_format.specs.Sizing.{place_ok, options_ok, default_options, codes_ok, size_ok, bounds_number, limits_number, sizing_number}

pub place_in : (platform root : ℕ) → place_ok platform root ≡ true → (platform ≤ 64) × (root ≤ 1048576)
place_in platform root h = let p = both h in (leb-true platform 64 p.0, leb-true root 1048576 p.1)

-- a row of any dimensions that are allowed fits the default block
pub default_options_lem : (dimensions : ℕ) → dimensions ≤ 4096 → options_ok default_options.max_cache_bytes default_options.buffer_bytes (row_length dimensions) ≡ true
unfolding span
default_options_lem dimensions h = rw (le-leb (row_length dimensions) 1048576 (omega arith))

-- the rows of an accepted manifest
pub rows_in : (rows dimensions : ℕ) → rows ≤ 1000000 → dimensions ≤ 4096 → rows * row_length dimensions ≤ 4112000000
rows_in rows dimensions h k = let l : row_length dimensions ≤ 4112 = omega arith in mul-le-mul h l

-- 10 and 7 refuse nothing
pub record Bounded (platform root limit block row : ℕ) : Type 0 where
  pub platform-short : platform ≤ 64
  pub root-short : root ≤ 1048576
  pub limit-low : 1 ≤ limit
  pub limit-high : limit ≤ 1073741824
  pub block_low : row ≤ block
  pub block_high : block ≤ 16777216

pub bounds_in : (platform root limit block row : ℕ) → bounds_number platform root limit block row ≡ 0 → Bounded platform root limit block row
unfolding bounds_number
bounds_in platform root limit block row e =
    let a = held (place_ok platform root) not_zero e in
    let b = held (options_ok limit block row) not_zero a.1 in
    let p = place_in platform root a.0 in
    let o = both b.0 in
    let l = in_range 1 cache_bytes_limit limit o.0 in
    let k = in_range row 16777216 block o.1 in
    record { platform-short = p.0; root-short = p.1; limit-low = l.0; limit-high = l.1; block_low = k.0; block_high = k.1 }

-- nor do 8 and 9
limits_in : (rows dimensions size limit : ℕ) → limits_number rows dimensions size limit ≡ 0 → (rows * dimensions ≤ 536870912) × (size + 8 ≤ limit)
unfolding limits_number
limits_in rows dimensions size limit e =
    let a = held (codes_ok rows dimensions) not_zero e in
    let b = held (size_ok size limit) not_zero a.1 in
    (leb-true (rows * dimensions) max_code_bytes a.0, leb-true (size + 8) limit b.0)

-- sizing refuses nothing
pub record Sized (platform root limit block manifest rows dimensions : ℕ) : Type 0 where
  pub bounds : Bounded platform root limit block (row_length dimensions)
  pub codes : rows * dimensions ≤ 536870912
  pub room : cache_size (identity_length platform root manifest) (length cache_between) rows dimensions + 8 ≤ limit

pub sized : (platform root limit block manifest rows dimensions : ℕ) → sizing_number platform root limit block manifest rows dimensions ≡ 0
    → Sized platform root limit block manifest rows dimensions
unfolding sizing_number
sized platform root limit block manifest rows dimensions e =
    let size = cache_size (identity_length platform root manifest) (length cache_between) rows dimensions in
    let f = or_else_lem (bounds_number platform root limit block (row_length dimensions)) (limits_number rows dimensions size limit) e in
    let l = limits_in rows dimensions size limit f.1 in
    record { bounds = bounds_in platform root limit block (row_length dimensions) f.0; codes = l.0; room = l.1 }
