use Rattle.std.proofs.Common.{get_or, rules}
use lib.Ieee.{nan}
use Rattle.math.specs.Sums.{step_of}
use Rattle.math.proofs.step_four.Goals as goal

pub returns : goal.returns
returns c =
    let a = c.args in
    c.each.ensures (λ k. step_of a.metric (get_or a.sums k nan) a.x (get_or a.y k nan)) (λ k y h p. search rules)
