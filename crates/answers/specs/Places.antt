-- Between functions: what they promise one another. No contract of an entry and no theorem rests on this file.
-- The places of listed rows (document 01, The report), from the order keys of their distances.
use Rattle.std.specs.Prelude.{List, [], ◌∷◌, ℕ}
use Rattle.std.specs.Float.{binary64}
use Rattle.std.specs.Float.Ieee.{of_bits}
use Rattle.float.specs.Order.{bits_of}
use Rattle.format.specs.Fields.{id_at, metadata_at}
use Rattle.segment.specs.Record.{metadata_start}
use Rattle.search_spec.specs.declared.Place.{Place}

-- row r, of this key
unfoldable pub place_by : List ℕ → ℕ → ℕ → Place
place_by m key r =
    record {
      id = id_at m r;
      distance = of_bits binary64 (bits_of key);
      row = r;
      start = metadata_start m r;
      length = metadata_at m r;
    }

unfoldable pub places_by : List ℕ → List ℕ → List ℕ → List Place
places_by m (k ∷ ks) (r ∷ rs) = place_by m k r ∷ places_by m ks rs
places_by m [] rs = []
places_by m (k ∷ ks) [] = []
