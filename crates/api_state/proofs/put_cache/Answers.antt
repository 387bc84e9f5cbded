use Rattle.api_state.proofs.Laws.{cache-back}
use Rattle.api_state.proofs.put_cache.Goals as goal

pub returns : goal.returns
returns c = (c.put_state.ensures.0, cache-back c.args.s c.put_state.ensures.1)
