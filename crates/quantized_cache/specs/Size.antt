-- Sizing as an entry (readings R16: it "takes the manifest and tests it anew (then 10, 7, 8, 9)"; all places are 0).
use Rattle.std.specs.Prelude.{cond, List, ℕ, eqb, length, Result}
use Rattle.config.specs.Refusal.{Refusal, refused}
use Rattle.config.specs.Told.{told, granted}
use Rattle.config.specs.declared.Refused.{Refused}
use Rattle.format.specs.Order.{or_else}
use Rattle.format.specs.Fields.{dimensions_of, rows_of}
use Rattle.manifest.specs.Check.{manifest_number}
use Rattle.cache_format.specs.Cache.{identity_length, cache_between, cache_size}
use Rattle.cache_format.specs.Sizing.{sizing_number}
use Rattle.cache_format.specs.declared.Options.{Options}

-- sizing's number for a manifest, and the size
unfoldable pub sizing_of : List ℕ → List ℕ → List ℕ → Options → ℕ
sizing_of m platform root o =
    sizing_number (length platform) (length root) o.max_cache_bytes o.buffer_bytes (length m) (rows_of m) (dimensions_of m)

abbrev pub size_of : List ℕ → List ℕ → List ℕ → ℕ
size_of m platform root = cache_size (identity_length (length platform) (length root) (length m)) (length cache_between) (rows_of m) (dimensions_of m)

-- the manifest's tests, then sizing's; `scratch` is the length of the scratch slice
unfoldable pub size_number : List ℕ → ℕ → ℕ → List ℕ → List ℕ → Options → ℕ
size_number m expected scratch platform root o = or_else (manifest_number m expected scratch) (sizing_of m platform root o)

-- a refusal, and the size of a library's cache
pub record Sized : Type 0 where
  pub refusal : Refusal
  pub size : ℕ

-- what the code answers
abbrev pub size_outcome : Result ℕ Refused → Sized
size_outcome r = record { refusal = told r; size = granted 0 r }

-- document 01: "A refusal returns its number and a place .. All counts are then 0"
unfoldable pub sized_by : List ℕ → List ℕ → List ℕ → ℕ → Sized
sized_by m platform root number = record { refusal = refused number 0; size = cond (eqb number 0) (size_of m platform root) 0 }

abbrev pub sized : List ℕ → ℕ → ℕ → List ℕ → List ℕ → Options → Sized
sized m expected scratch platform root o = sized_by m platform root (size_number m expected scratch platform root o)
