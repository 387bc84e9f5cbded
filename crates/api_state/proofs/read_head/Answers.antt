use Rattle.api_state.specs.Bytes.{head_in}
use Rattle.api_state.proofs.read_head.Goals as goal

pub returns : goal.returns
unfolding head_in
returns c = c.head_at.ensures
