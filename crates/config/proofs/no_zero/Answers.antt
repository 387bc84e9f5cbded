use lib.Dec.{eqb}
use Rattle.config.proofs.Vectors.{none_passes}
use Rattle.config.proofs.no_zero.Goals as goal

pub returns : goal.returns
returns c = rw c.contains.ensures.value (none_passes (λ x. eqb x 0) c.args.s.now)
