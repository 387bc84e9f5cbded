use Rattle.std.proofs.Common.{◌≡◌, ◌≤◌, true, length, sym, ap, ◌∙◌}
use lib.Ieee.{neg, of_bits}
use Rattle.float.proofs.Quads.{four-alike}
use Rattle.root.specs.SquareRoot.{sqrt_of}
use Rattle.config.specs.Metric.{is_cosine}
use Rattle.math.specs.Distance.{inverse, inverse_norm}
use Rattle.math.proofs.Folds.{kept-start, kept_turn, kept_done}
use Rattle.math.proofs.Fours.{fours_start, fours_turn, pick, are_originals, same}
use Rattle.math.proofs.measure_four.Goals as goal
use Rattle.math.proofs.measure_four.Goals.{in-Some, in-None}

pub loop-i-init : goal.loop-i-init
unfolding neg of_bits
loop-i-init g c = (fours_start, λ h. fours_start, λ h. kept-start)

pub loop-i-preserved : goal.loop-i-preserved
loop-i-preserved g c =
    let L = c.loop-i in
    let r = c.requires in
    let h = c.loop-i-test.true in
    let l = same _ _ _ _ _ r.a_length.0 r.b_length.0 r.c_length.0 r.d_length.0 in
    let e = c.at-x.ensures in
    let y = four-alike c.at.ensures c.at-in-loop-i.ensures c.at-in-loop-i-2.ensures c.at-in-loop-i-3.ensures in (
      fours_turn h (λ k j. r.q_length.0) l (four-alike e e e e) y c.step_four-next.ensures L.invariant.0,
      λ k. fours_turn h l l y y (rw k at c.norm_step_four-more.ensures) (L.invariant.1 k),
      λ k. rw (c.norm_step-q_norm.ensures, k) (kept_turn (rw r.q_length.0 h) (rw r.q_length.0 h) e e (L.invariant.2 k)),
    )

pub returns : goal.returns
returns g c =
    let L = c.loop-i in
    let r = c.requires in
    let a = c.args in
    let q = g.X.Coordinates.floats a.q.now in
    let f = g.Y.Coordinates.floats in
    let done : length q ≤ L.i = rw r.q_length.0 c.loop-i-test.false in
    let n = sym r.q_length.0 in
    let i : is_cosine a.metric ≡ true → c.match-known.q_inverse ≡ inverse_norm q = elim c.match-known.branch [ in-Some w ↦ λ k. rw w.q_inverse-is (r.known_value _ w.in-Some.is k) | in-None w ↦ λ k. w.q_inverse-is ∙ w.inverse_root-q_inverse.ensures ∙ ap (λ x. inverse (sqrt_of x)) (kept_done done (L.invariant.2 k)) ] in
    c.finish_four.ensures
    ∙ are_originals a.metric q (pick (f a.a.now) (f a.b.now) (f a.c.now) (f a.d.now)) done (same _ _ _ _ _ (r.a_length.0 ∙ n) (r.b_length.0 ∙ n) (r.c_length.0 ∙ n) (r.d_length.0 ∙ n)) L.invariant.0 i L.invariant.1
