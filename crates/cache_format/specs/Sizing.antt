-- Sizing (document 01, What each place turns away, sizing; "Preparing: 10, 7, 8, 9", "Opening: 10, 7, 8, 9"). Platform, root and manifest
-- are given by their lengths, cache limit and block are the options.
use Rattle.std.specs.Prelude.{Bool, ◌&&◌, ℕ, ◌+◌, ◌*◌, leb, length}
use Rattle.utf8.specs.Grammar.{span}
use Rattle.config.specs.Limits.{max_code_bytes, cache_bytes_limit}
use Rattle.format.specs.Order.{unless, or_else}
use Rattle.cache_format.specs.Cache.{identity_length, cache_between, row_length, cache_size}
use Rattle.cache_format.specs.declared.Options.{Options}

-- "10: platform name over 64 bytes (added), root over 1,048,576"
abbrev pub place_ok : ℕ → ℕ → Bool
place_ok platform root = leb platform 64 && leb root 1048576

-- "7: cache limit 0 or over 1,073,741,824, block under one row or over 16,777,216"
abbrev pub options_ok : ℕ → ℕ → ℕ → Bool
options_ok limit block row = span 1 cache_bytes_limit limit && span row 16777216 block

-- document 01, The list program: "uses the default options"; quantized_cache.rs, `Default`: the most that the limit may be, and a block of
-- 1,048,576
abbrev pub default_options : Options
default_options = record { max_cache_bytes = cache_bytes_limit; buffer_bytes = 1048576 }

-- "8: rows × dimensions over 536,870,912"
abbrev pub codes_ok : ℕ → ℕ → Bool
codes_ok rows dimensions = leb (rows * dimensions) max_code_bytes

-- "9: cache size + 8 over the cache limit"
abbrev pub size_ok : ℕ → ℕ → Bool
size_ok size limit = leb (size + 8) limit

-- 10 and 7, of rows of some length
unfoldable pub bounds_number : ℕ → ℕ → ℕ → ℕ → ℕ → ℕ
bounds_number platform root limit block row =
    unless (place_ok platform root) 10
    (unless (options_ok limit block row) 7 0)

-- 8 and 9, of a cache of some size
unfoldable pub limits_number : ℕ → ℕ → ℕ → ℕ → ℕ
limits_number rows dimensions size limit =
    unless (codes_ok rows dimensions) 8
    (unless (size_ok size limit) 9 0)

-- both, of a cache of the base
unfoldable pub sizing_number : ℕ → ℕ → ℕ → ℕ → ℕ → ℕ → ℕ → ℕ
sizing_number platform root limit block manifest rows dimensions =
    or_else (bounds_number platform root limit block (row_length dimensions))
    (limits_number rows dimensions (cache_size (identity_length platform root manifest) (length cache_between) rows dimensions) limit)
