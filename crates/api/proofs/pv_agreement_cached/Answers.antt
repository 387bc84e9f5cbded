use Rattle.api.proofs.Slices.{no-ids}
use Rattle.api.proofs.pv_agreement_cached.Goals as goal

pub returns : goal.returns
returns c =
    let e = rw c.read_cache.ensures at c.counted.ensures in (e.0, e.1, e.2, e.3, no-ids c.counted.auto.id_work e.4)
