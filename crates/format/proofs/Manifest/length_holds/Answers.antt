use Rattle.utf8.specs.Grammar.{span}
use Rattle.format.proofs.Manifest.length_holds.Goals as goal

pub returns : goal.returns
unfolding span
returns c = rw c.segment_length-length.ensures
