use mir.Syntax.{w64}
use Rattle.codes.proofs.Numbers.{widened}
use Rattle.row.specs.Distance.{distance_of}
use Rattle.row.specs.Over.{is_over}
use Rattle.row.proofs.Distances.{held}
use Rattle.row.proofs.is_over.Goals as goal

pub returns-in-SquaredL2 : goal.returns-in-SquaredL2
unfolding distance_of is_over
returns-in-SquaredL2 c =
    rw c.in-SquaredL2.is
    (rw (rw (held c.args.row.norm c.requires.0, held c.args.query.norm c.requires.1, widened w64 tt c.ranges.dot) at c.squared_l2.ensures) at c.is_over.ensures)

pub returns-in-Cosine : goal.returns-in-Cosine
unfolding distance_of is_over
returns-in-Cosine c = rw c.in-Cosine.is

pub returns-in-InnerProduct : goal.returns-in-InnerProduct
unfolding distance_of is_over
returns-in-InnerProduct c =
    rw c.in-InnerProduct.is (rw (rw (widened w64 tt c.ranges.dot) at c.inner_product.ensures) at c.is_over-in-InnerProduct.ensures)
