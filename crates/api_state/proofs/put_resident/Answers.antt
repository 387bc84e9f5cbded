use Rattle.api_state.proofs.Laws.{resident-back}
use Rattle.api_state.proofs.put_resident.Goals as goal

pub returns : goal.returns
returns c = (c.put_state.ensures.0, resident-back c.args.s c.put_state.ensures.1)
