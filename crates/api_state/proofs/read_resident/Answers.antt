use Rattle.api_state.specs.Bytes.{resident_in}
use Rattle.api_state.proofs.read_resident.Goals as goal

pub returns : goal.returns
unfolding resident_in
returns c = rw (c.u64_at-3.ensures, c.u64_at-2.ensures, c.u64_at.ensures, c.head_at.ensures)
