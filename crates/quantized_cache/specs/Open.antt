-- Opening a cache (document 01, What each place turns away, opening: "12: length, magic or version wrong; 13: identity differs; 14: row
-- invalid; 15: cache CRC-32 wrong"; "Opening: 10, 7, 8, 9, 12, 13, 14, 15", after the manifest is tested anew; places: "the row number for
-- 14", here "otherwise 0").
use Rattle.std.specs.Prelude.{Bool, cond, ◌&&◌, List, ℕ, ◌+◌, ◌-◌, ◌*◌, ◌≤◌, eqb, leb, length, Result}
use Rattle.crc32.specs.Crc.{ends_in_crc}
use Rattle.config.specs.Refusal.{Refusal, none, refused, refused_or, refused_at, unless_refused}
use Rattle.config.specs.Told.{told, granted}
use Rattle.config.specs.declared.Metric.{Metric}
use Rattle.config.specs.declared.Refused.{Refused}
use Rattle.quantization.specs.View.{View, row_at, valid_row}
use Rattle.quantization.specs.Encoder.{base_levels}
use Rattle.format.specs.Order.{or_else, first_bad}
use Rattle.format.specs.Fields.{dimensions_of, rows_of, metric_at}
use Rattle.format.specs.Head.{head_at, zero_head}
use Rattle.cache_format.specs.Cache.{identity, cache_version, row_length}
use Rattle.cache_format.specs.Open.{cache_head_number}
use Rattle.cache_format.specs.declared.Options.{Options}
use Rattle.quantized_cache.specs.Size.{size_of, size_number}
use Rattle.quantized_cache.specs.declared.CacheState.{CacheState}

-- readings R2: "A cached row n starts at cache length - 4 - (rows - n) × (dimensions + 16)"
abbrev pub row_start : ℕ → ℕ → ℕ → ℕ → ℕ
row_start size rows dimensions n = size - 4 - (rows - n) * row_length dimensions

-- all rows and the CRC-32 have room in a cache
abbrev pub RoomFor : ℕ → ℕ → ℕ → Type 0
RoomFor size rows dimensions = rows * row_length dimensions + 4 ≤ size

-- row n of a cache, as a search sees it
abbrev pub cached_at : ℕ → ℕ → List ℕ → ℕ → View
cached_at rows dimensions cache n = row_at dimensions cache (row_start (length cache) rows dimensions n)

-- 14: document 01, The arithmetic, Row valid
unfoldable pub cached_ok : ℕ → Metric → ℕ → ℕ → List ℕ → ℕ → Bool
cached_ok levels metric rows dimensions cache n = valid_row levels metric (cached_at rows dimensions cache n)

-- the lowest invalid row, or the row count
abbrev pub bad_row : ℕ → Metric → ℕ → ℕ → List ℕ → ℕ
bad_row levels metric rows dimensions cache = first_bad (cached_ok levels metric rows dimensions cache) rows

-- the rows, then 15
unfoldable pub content_refusal : ℕ → Metric → ℕ → ℕ → List ℕ → Refusal
content_refusal levels metric rows dimensions cache =
    refused_at 14 (bad_row levels metric rows dimensions cache) rows (cond (ends_in_crc cache) none (refused 15 0))

-- the number of the first test before the rows that fails, or 0
unfoldable pub open_number : List ℕ → ℕ → ℕ → List ℕ → List ℕ → List ℕ → Options → ℕ
open_number m expected scratch cache platform root o =
    or_else (size_number m expected scratch platform root o) (cache_head_number cache_version (size_of m platform root) (identity platform root m) cache)

unfoldable pub open_refusal : List ℕ → ℕ → ℕ → List ℕ → List ℕ → List ℕ → Options → Refusal
open_refusal m expected scratch cache platform root o =
    refused_or (open_number m expected scratch cache platform root o) (content_refusal base_levels (metric_at m) (rows_of m) (dimensions_of m) cache)

-- the state is the head and the cache's length (readings R2); "the state returned by a refused check .. is all zero" (R23)
abbrev pub state_of : List ℕ → List ℕ → CacheState
state_of m cache = record { head = head_at m; cache = length cache }

-- what a search tests of a cache's length against the state: 21 where "the cache .. length differs" (document 01, What each place turns
-- away), or where it is "under 4 + rows × (dimensions + 16)" (readings R3)
unfoldable pub cache_length_ok : CacheState → ℕ → ℕ → ℕ → Bool
cache_length_ok state rows dimensions size = eqb size state.cache && leb (rows * row_length dimensions + 4) size

abbrev pub zero_cache_state : CacheState
zero_cache_state = record { head = zero_head; cache = 0 }

-- a refusal, and what a search compares
pub record Opened : Type 0 where
  pub refusal : Refusal
  pub state : CacheState

-- what the code answers
abbrev pub open_outcome : Result CacheState Refused → Opened
open_outcome r = record { refusal = told r; state = granted zero_cache_state r }

unfoldable pub opened_by : List ℕ → List ℕ → Refusal → Opened
opened_by m cache refusal = record { refusal = refusal; state = unless_refused refusal (state_of m cache) zero_cache_state }

abbrev pub opened : List ℕ → ℕ → ℕ → List ℕ → List ℕ → List ℕ → Options → Opened
opened m expected scratch cache platform root o = opened_by m cache (open_refusal m expected scratch cache platform root o)
