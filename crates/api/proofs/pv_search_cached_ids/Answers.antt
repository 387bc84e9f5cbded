use Rattle.api.proofs.pv_search_cached_ids.Goals as goal

pub returns : goal.returns
returns c = rw c.read_cache.ensures at c.searched.ensures
