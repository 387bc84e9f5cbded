use Rattle.api_state.proofs.Laws.{head-back}
use Rattle.api_state.proofs.put_head.Goals as goal

pub returns : goal.returns
returns c = (c.put_state.ensures.0, head-back c.args.h c.put_state.ensures.1)
