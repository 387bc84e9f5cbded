use Rattle.format.specs.Fields.{sequence_of}
use Rattle.format.proofs.Manifest.sequence.Goals as goal

pub returns : goal.returns
unfolding sequence_of
returns c = c.u64_at.ensures
