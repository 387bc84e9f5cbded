use Rattle.api_state.specs.Bytes.{head_numbers}
use Rattle.api_state.proofs.head_numbers.Goals as goal

pub returns : goal.returns
unfolding head_numbers
returns c = rw c.byte.ensures
