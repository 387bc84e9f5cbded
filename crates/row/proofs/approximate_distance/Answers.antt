use mir.Syntax.{w64}
use Rattle.codes.proofs.Numbers.{widened}
use Rattle.row.specs.Distance.{distance_of}
use Rattle.row.proofs.Distances.{held}
use Rattle.row.proofs.approximate_distance.Goals as goal

pub returns-in-SquaredL2 : goal.returns-in-SquaredL2
unfolding distance_of
returns-in-SquaredL2 c =
    let q = c.args.query in
    rw c.in-SquaredL2.is
    (rw (held c.args.row.norm c.requires, held q.row.norm q.exact, widened w64 tt c.ranges.dot) at c.squared_l2.ensures)

pub returns-in-Cosine : goal.returns-in-Cosine
unfolding distance_of
returns-in-Cosine c =
    rw c.in-Cosine.is (rw (held c.args.row.norm c.requires, widened w64 tt c.ranges.dot, c.args.query.rooted) at c.cosine_of.ensures)

pub returns-in-InnerProduct : goal.returns-in-InnerProduct
unfolding distance_of
returns-in-InnerProduct c =
    rw c.in-InnerProduct.is (rw (widened w64 tt c.ranges.dot) at c.inner_product.ensures)
