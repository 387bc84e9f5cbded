use Rattle.math.specs.Distance.{finished}
use Rattle.math.proofs.finish.Goals as goal

pub returns-in-SquaredL2 : goal.returns-in-SquaredL2
unfolding finished
returns-in-SquaredL2 c = rw c.in-SquaredL2.is

pub returns-in-InnerProduct : goal.returns-in-InnerProduct
unfolding finished
returns-in-InnerProduct c = rw c.in-InnerProduct.is
