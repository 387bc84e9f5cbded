use Rattle.api.proofs.pv_search_resident_ids.Goals as goal

pub returns : goal.returns
returns c = rw c.read_resident.ensures at c.searched.ensures
