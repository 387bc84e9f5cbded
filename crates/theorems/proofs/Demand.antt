-- Demand 3, whole.
use Rattle.search_spec.specs.Kept.{cached_rows, resident_rows}
use Rattle.theorems.specs.Demand.{Demand}
use Rattle.theorems.proofs.Improves.{lists, improves_cached, improves_resident}
use Rattle.theorems.proofs.Alike.{alike}
use Rattle.theorems.proofs.Finds.{finds_cached, finds_resident}
use Rattle.theorems.proofs.Exhibit.{exhibit}

pub demand : Demand
demand = record {
  lists_cached = λ c state cache. lists state.head (cached_rows c.manifest state cache) c;
  lists_resident = λ c state codes scales norms. lists state.head (resident_rows c.manifest state codes scales norms) c;
  improves_cached = improves_cached;
  improves_resident = improves_resident;
  alike = alike;
  finds_cached = finds_cached;
  finds_resident = finds_resident;
  exhibit = exhibit;
}
