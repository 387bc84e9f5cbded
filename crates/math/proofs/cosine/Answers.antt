use lib.Ieee.{of_bits}
use Rattle.math.specs.Distance.{finished}
use Rattle.math.proofs.cosine.Goals as goal

pub returns : goal.returns
unfolding finished of_bits
returns c = rw (← c.inverse_of.ensures) c.hold.ensures
