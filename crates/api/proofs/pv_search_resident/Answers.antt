use Rattle.api.proofs.Slices.{no-ids}
use Rattle.api.proofs.pv_search_resident.Goals as goal

pub returns : goal.returns
returns c =
    let e = rw c.read_resident.ensures at c.searched.ensures in (e.0, e.1, e.2, e.3, no-ids c.searched.auto.id_work e.4)
