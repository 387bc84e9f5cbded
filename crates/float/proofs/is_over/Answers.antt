use lib.Ieee.{of_bits}
use Rattle.float.proofs.BitLaws.{finite_over}
use Rattle.float.proofs.is_over.Goals as goal

pub returns : goal.returns
unfolding of_bits
returns c = finite_over c.args.bound c.args.x
