-- What the tests up to sizing's say of a library.
use mathlib.Core.Path.{◌≡◌}
use mathlib.Core.List.{List}
use Prim.Native.Nat.{ℕ}
use lib.ListN.{length}
use borrow.Author.Tests.{ne_eqb}
use Rattle.config.specs.Told.{number_of}
use Rattle.config.specs.declared.Number.{Number}
use Rattle.config.proofs.Numbers.{some_number}
use Rattle.format.specs.Fields.{dimensions_of, rows_of}
use Rattle.manifest.specs.Check.{manifest_number}
use Rattle.format.specs.Order.{or_else}
use Rattle.format.proofs.Refusals.{or_else_lem}
use Rattle.manifest.proofs.Passed.{Planned, accepted}
use Rattle.cache_format.specs.declared.Options.{Options}
use Rattle.cache_format.proofs.Sizes.{Sized, sized}
use Rattle.quantized_cache.specs.Size.{sizing_of, size_number}

-- what is refused by the tests before, whatever the rest says
pub refused_before : (e : Number) {n : ℕ} (rest : ℕ) → number_of e ≡ n → number_of e ≡ or_else n rest
refused_before e rest h = rw (h, ne_eqb _ 0 (rw h at (some_number e)))

pub sizing_in : (m platform root : List ℕ) (o : Options) → sizing_of m platform root o ≡ 0
    → Sized (length platform) (length root) o.max_cache_bytes o.buffer_bytes (length m) (rows_of m) (dimensions_of m)
unfolding sizing_of
sizing_in m platform root o h = sized (length platform) (length root) o.max_cache_bytes o.buffer_bytes (length m) (rows_of m) (dimensions_of m) h

-- a library that is sized
pub record Passed (m : List ℕ) (expected room : ℕ) (platform root : List ℕ) (o : Options) : Type 0 where
  pub manifest : Planned m expected room
  pub sizing : sizing_of m platform root o ≡ 0

pub passed : (m : List ℕ) (expected room : ℕ) (platform root : List ℕ) (o : Options) → size_number m expected room platform root o ≡ 0
    → Passed m expected room platform root o
unfolding size_number
passed m expected room platform root o h =
    let p = or_else_lem (manifest_number m expected room) (sizing_of m platform root o) h in
    record { manifest = (accepted m expected room p.0).0; sizing = p.1 }
