-- The two kinds of rows: in a cache, and in resident slices.
use Rattle.std.specs.Prelude.{List, ℕ, ℤ, length, Float}
use Rattle.format.specs.Fields.{dimensions_of, rows_of}
use Rattle.quantized_cache.specs.Open.{cached_at, cache_length_ok}
use Rattle.quantized_cache.specs.declared.CacheState.{CacheState}
use Rattle.resident.specs.Build.{resident_at, resident_lengths_ok}
use Rattle.resident.specs.declared.ResidentState.{ResidentState}
use Rattle.search_spec.specs.Lent.{Encoding, Rows, Call, base}
use Rattle.search_spec.specs.Outcome.{Outcome, searched, agreed}

-- the encoding of the rows, by the state: the base's
abbrev pub cache_encoding : CacheState → Encoding
cache_encoding state = base

abbrev pub resident_encoding : ResidentState → Encoding
resident_encoding state = base

-- 21: "the cache or resident length differs"
unfoldable pub cached_rows : List ℕ → CacheState → List ℕ → Rows
cached_rows m state cache =
    record {
      encoding = cache_encoding state;
      length_ok = cache_length_ok state (rows_of m) (dimensions_of m) (length cache);
      at = cached_at (rows_of m) (dimensions_of m) cache;
    }

unfoldable pub resident_rows : List ℕ → ResidentState → List ℤ → List Float → List ℤ → Rows
resident_rows m state codes scales norms =
    record {
      encoding = resident_encoding state;
      length_ok = resident_lengths_ok state (rows_of m) (dimensions_of m) (length codes) (length scales) (length norms);
      at = resident_at (dimensions_of m) codes scales norms;
    }

-- The four outcomes, of what opening or building returned, what it returned it for, and all else that is lent.
abbrev pub cached : CacheState → List ℕ → Call → Outcome
cached state cache c = searched state.head (cached_rows c.manifest state cache) c

abbrev pub resident : ResidentState → List ℤ → List Float → List ℤ → Call → Outcome
resident state codes scales norms c = searched state.head (resident_rows c.manifest state codes scales norms) c

abbrev pub agreement_cached : CacheState → List ℕ → Call → Outcome
agreement_cached state cache c = agreed state.head (cached_rows c.manifest state cache) c

abbrev pub agreement_resident : ResidentState → List ℤ → List Float → List ℤ → Call → Outcome
agreement_resident state codes scales norms c = agreed state.head (resident_rows c.manifest state codes scales norms) c
