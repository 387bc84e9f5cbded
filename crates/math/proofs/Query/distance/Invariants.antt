use Rattle.std.proofs.Common.{◌≡◌, true, length}
use Rattle.config.specs.Metric.{is_cosine}
use Rattle.config.specs.Vector.{floats_at}
use Rattle.math.specs.Sums.{dot_step, step_of}
use Rattle.math.proofs.Folds.{Kept}
use Rattle.math.proofs.Query.distance.Given as goal

abbrev pub invariant-loop-i : goal.invariant-loop-i
invariant-loop-i l =
    let q = l.self.coordinates.now in
    let r = floats_at (length q) l.s l.at in
    Kept (step_of l.self.metric) q r l.i l.sum × (is_cosine l.self.metric ≡ true → Kept dot_step r r l.i l.norm)
