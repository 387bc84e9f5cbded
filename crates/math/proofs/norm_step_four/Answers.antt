use Rattle.std.proofs.Common.{get_or, rules}
use lib.Ieee.{nan}
use Rattle.math.specs.Sums.{dot_step}
use Rattle.math.proofs.norm_step_four.Goals as goal

pub returns-then-is_cosine : goal.returns-then-is_cosine
returns-then-is_cosine c =
    let a = c.args in
    rw (← c.is_cosine.ensures, c.if-is_cosine.true) (c.each.ensures (λ k. dot_step (get_or a.norms k nan) (get_or a.y k nan) (get_or a.y k nan)) (λ k y h p. search rules))
