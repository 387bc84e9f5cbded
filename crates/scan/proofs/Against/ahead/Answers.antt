use native.Mathlib.Omega.{arith}
use Rattle.row.specs.Answer.{view_of}
use Rattle.scan.proofs.Far.{over-row}
use Rattle.scan.proofs.Going.{gone_next, ahead_here, ahead-none}
use Rattle.scan.proofs.Against.ahead.Goals as goal

pub loop-i-init : goal.loop-i-init
loop-i-init g c = (omega arith, λ k l h. absurd (omega arith))

pub loop-i-preserved : goal.loop-i-preserved
loop-i-preserved g c =
    let L = c.loop-i in
    let a = c.args.self in
    let q = a.query.row in
    let at = g.R.Rows.at c.args.rows in
    let v = at L.i in
    let o = over-row a.levels a.metric L.i v q.scale q.norm a.codes.now c.row_sums-sums.result {top = c.args.top}
    (rw c.codes.ensures.values at c.row_sums-sums.ensures) (c.turns_away.ensures v.scale v.norm c.read.ensures) c.if-not-turns_away.false (omega arith) c.value_of_key-bound.ensures c.requires.limits.far in
    (omega (arith, L.invariant.0), gone_next a.levels a.metric at (view_of q.scale q.norm a.codes.now) L.i L.invariant.1 o)

pub returns-then-not-turns_away : goal.returns-then-not-turns_away
returns-then-not-turns_away g c =
    let L = c.loop-i in
    let a = c.args.self in
    let q = a.query.row in
    ahead_here a.levels a.metric (g.R.Rows.at c.args.rows) (view_of q.scale q.norm a.codes.now) _ L.invariant.0 c.loop-i-test.true L.invariant.1 (rw c.codes.ensures.values at c.row_sums-sums.ensures)

pub returns : goal.returns
returns g c =
    let L = c.loop-i in
    let a = c.args.self in
    let q = a.query.row in
    ahead-none a.levels a.metric (g.R.Rows.at c.args.rows) (view_of q.scale q.norm a.codes.now) L.i c.requires.bounds.0 c.loop-i-test.false L.invariant.1
