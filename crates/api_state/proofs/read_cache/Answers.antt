use Rattle.api_state.specs.Bytes.{cache_in}
use Rattle.api_state.proofs.read_cache.Goals as goal

pub returns : goal.returns
unfolding cache_in
returns c = rw (c.u64_at.ensures, c.head_at.ensures)
