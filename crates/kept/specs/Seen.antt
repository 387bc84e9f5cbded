-- Between functions: what they promise one another. No contract of an entry and no theorem rests on this file.
-- The rows that a call sees are of the base's encoding.
use Rattle.std.specs.Prelude.{◌≡◌, refl, List, ℕ, ℤ, Float}
use Rattle.quantized_cache.specs.declared.CacheState.{CacheState}
use Rattle.resident.specs.declared.ResidentState.{ResidentState}
use Rattle.search_spec.specs.Lent.{base}
use Rattle.search_spec.specs.Kept.{cached_rows, resident_rows}

pub cached-base : (state : CacheState) (cache m : List ℕ) → (cached_rows m state cache).encoding ≡ base
unfolding cached_rows
cached-base state cache m = refl

pub resident-base : (state : ResidentState) (codes : List ℤ) (scales : List Float) (norms : List ℤ) (m : List ℕ) → (resident_rows m state codes scales norms).encoding ≡ base
unfolding resident_rows
resident-base state codes scales norms m = refl
