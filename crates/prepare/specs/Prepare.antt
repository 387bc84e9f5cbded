-- Preparing (document 01, What each place turns away: "Preparing: 10, 7, 8, 9, 11, then 5 for the lowest bad row, all before the first byte
-- is stored", after the manifest is tested anew; "11: a lent slice too short (added)": "a cache under its size").
use Rattle.std.specs.Prelude.{List, ◌++◌, ℕ, ◌*◌, leb, drop, Result}
use Rattle.config.specs.Refusal.{Refusal, refused_or, unless_refused}
use Rattle.config.specs.Told.{told, granted}
use Rattle.config.specs.declared.Refused.{Refused}
use Rattle.quantization.specs.Encoder.{base_levels, midpoints}
use Rattle.format.specs.Order.{unless}
use Rattle.format.specs.Fields.{generation_of, sequence_of, rows_of, dimensions_of}
use Rattle.cache_format.specs.Cache.{identity, cache_version, cache_between, bytes_of_cache}
use Rattle.cache_format.specs.declared.Options.{Options}
use Rattle.manifest.specs.Check.{manifest_number}
use Rattle.quantized_cache.specs.Size.{sizing_of, size_of}
use Rattle.encoded_rows.specs.Rows.{rows_bytes, bad_record_refusal}
use Rattle.prepare.specs.declared.Info.{Info}

-- 11: `room` is the length of the cache lent
abbrev pub cache_room_number : ℕ → ℕ → ℕ
cache_room_number size room = unless (leb size room) 11 0

-- the refusals after sizing's: 11, then 5
unfoldable pub store_refusal : List ℕ → List ℕ → ℕ → ℕ → Refusal
store_refusal m s size room = refused_or (cache_room_number size room) (bad_record_refusal m s)

-- those of an accepted manifest
unfoldable pub accepted_refusal : List ℕ → List ℕ → List ℕ → List ℕ → Options → ℕ → Refusal
accepted_refusal m s platform root o room = refused_or (sizing_of m platform root o) (store_refusal m s (size_of m platform root) room)

unfoldable pub prepare_refusal : List ℕ → ℕ → ℕ → List ℕ → List ℕ → List ℕ → Options → ℕ → Refusal
prepare_refusal m expected scratch s platform root o room =
    refused_or (manifest_number m expected scratch) (accepted_refusal m s platform root o room)

-- the cache of a library, with the base's version and encoder
unfoldable pub cache_of : List ℕ → List ℕ → List ℕ → List ℕ → List ℕ
cache_of m s platform root = bytes_of_cache cache_version (identity platform root m) cache_between (rows_bytes base_levels midpoints m s (rows_of m))

-- "bytes past the size stay"; on a refusal all of them
unfoldable pub cache_after : List ℕ → List ℕ → List ℕ → List ℕ → Refusal → List ℕ → List ℕ
cache_after m s platform root refusal d = unless_refused refusal (cache_of m s platform root ++ drop (size_of m platform root) d) d

-- the Rust's `QuantizedCacheInfo`; readings R23: all of it is zero on a refusal
abbrev pub info_of : List ℕ → ℕ → Info
info_of m size =
    record {
      generation = generation_of m;
      sequence = sequence_of m;
      cache_bytes = size;
      code_bytes = rows_of m * dimensions_of m;
      parameter_bytes = rows_of m * 16;
    }

abbrev pub no_info : Info
no_info = record { generation = 0; sequence = 0; cache_bytes = 0; code_bytes = 0; parameter_bytes = 0 }

-- a refusal, and what was prepared
pub record Prepared : Type 0 where
  pub refusal : Refusal
  pub info : Info

-- what the code answers
abbrev pub outcome : Result Info Refused → Prepared
outcome r = record { refusal = told r; info = granted no_info r }

unfoldable pub prepared_by : List ℕ → ℕ → Refusal → Prepared
prepared_by m size refusal = record { refusal = refusal; info = unless_refused refusal (info_of m size) no_info }

-- the whole answer, of an accepted manifest and of any; `cache_after` with its refusal is what is left of the cache lent
abbrev pub prepared_accepted : List ℕ → List ℕ → List ℕ → List ℕ → Options → ℕ → Prepared
prepared_accepted m s platform root o room = prepared_by m (size_of m platform root) (accepted_refusal m s platform root o room)

abbrev pub prepared : List ℕ → ℕ → ℕ → List ℕ → List ℕ → List ℕ → Options → ℕ → Prepared
prepared m expected scratch s platform root o room =
    prepared_by m (size_of m platform root) (prepare_refusal m expected scratch s platform root o room)
