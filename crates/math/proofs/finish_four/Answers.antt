use Rattle.std.proofs.Common.{get_or, rules}
use lib.Ieee.{nan, neg}
use Rattle.config.specs.declared.Metric.TheVariants.{Cosine}
use Rattle.math.specs.Distance.{finished, inverse}
use Rattle.math.proofs.finish_four.Goals as goal

pub returns-in-SquaredL2 : goal.returns-in-SquaredL2
unfolding finished
returns-in-SquaredL2 c = rw c.in-SquaredL2.is (c.each.ensures (λ k. get_or c.args.sums k nan) (λ k y h p. search rules))

pub returns-in-Cosine : goal.returns-in-Cosine
returns-in-Cosine c =
    let e = c.each-in-Cosine.ensures (λ k. finished Cosine (get_or c.args.sums k nan) c.args.q_inverse (inverse (get_or c.sqrt_four-roots.result k nan))) (λ k y h p. search rules) in
    rw c.in-Cosine.is (rw c.sqrt_four-roots.ensures at e)

pub returns-in-InnerProduct : goal.returns-in-InnerProduct
unfolding finished
returns-in-InnerProduct c = rw c.in-InnerProduct.is (c.each-in-InnerProduct.ensures (λ k. neg (get_or c.args.sums k nan)) (λ k y h p. search rules))
