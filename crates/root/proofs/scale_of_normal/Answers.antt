use Rattle.root.proofs.Scales.{scale_normal}
use Rattle.root.proofs.scale_of_normal.Goals as goal

pub returns : goal.returns
returns c = scale_normal c.args.bits c.requires.0 c.requires.1
