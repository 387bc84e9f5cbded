use Rattle.config.proofs.Coordinates.{in_floats, past_floats}
use Rattle.std.proofs.Common.{length, refl, ◌∙◌}
use lib.Ieee.{neg, of_bits}
use Rattle.config.specs.Vector.{floats_at}
use Rattle.math.proofs.Folds.{kept-start, kept_turn, kept_done, is-original}
use Rattle.math.proofs.Query.distance.Goals as goal

pub loop-i-init : goal.loop-i-init
unfolding neg of_bits
loop-i-init c = (kept-start, λ h. kept-start)

pub at-y-requires-clause-in_bounds : goal.at-y-requires-clause-in_bounds
at-y-requires-clause-in_bounds c = let a = c.args in in_floats (length a.self.now.coordinates.now) a.s.now a.at c.loop-i-test.true

pub loop-i-preserved : goal.loop-i-preserved
loop-i-preserved c =
    let L = c.loop-i in
    let h = c.loop-i-test.true in
    let a = c.args in
    let l = in_floats (length a.self.now.coordinates.now) a.s.now a.at h in
    let e = c.at-y.ensures in
    (rw c.step-sum.ensures (kept_turn h l refl e L.invariant.0), λ k. rw (c.norm_step-norm.ensures, k) (kept_turn l l e e (L.invariant.1 k)))

pub returns : goal.returns
returns c =
    let L = c.loop-i in
    let h = c.loop-i-test.false in
    let a = c.args in
    let x = a.self.now in
    let n = length x.coordinates.now in
    c.finish.ensures
    ∙ is-original x.metric x.coordinates.now (floats_at n a.s.now a.at) (kept_done h L.invariant.0) x.inverse_is
    (λ k. kept_done (past_floats n a.s.now a.at h) (L.invariant.1 k))
