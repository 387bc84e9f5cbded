use Rattle.std.proofs.Common.{◌≡◌, true}
use Rattle.config.specs.Metric.{is_cosine}
use Rattle.math.specs.Sums.{dot_step, step_of}
use Rattle.math.proofs.Folds.{Kept}
use Rattle.math.proofs.Fours.{Fours, pick}
use Rattle.math.proofs.measure_four.Given as goal

abbrev pub invariant-loop-i : goal.invariant-loop-i
invariant-loop-i g l =
    let q = g.X.Coordinates.floats l.q in
    let f = g.Y.Coordinates.floats in
    let ys = pick (f l.a) (f l.b) (f l.c) (f l.d) in
    Fours (step_of l.metric) (λ k. q) ys l.i l.sums × (is_cosine l.metric ≡ true → Fours dot_step ys ys l.i l.norms) × (is_cosine l.metric ≡ true → Kept dot_step q q l.i l.q_norm)
