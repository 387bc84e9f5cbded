use Rattle.format.specs.Fields.{generation_of}
use Rattle.format.proofs.Manifest.generation.Goals as goal

pub returns : goal.returns
unfolding generation_of
returns c = c.u64_at.ensures
