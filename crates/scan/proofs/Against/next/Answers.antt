use native.Mathlib.Omega.{arith}
use Rattle.row.specs.Answer.{view_of}
use Rattle.scan.proofs.Going.{said_summed, next_here, next-passed}
use Rattle.scan.proofs.Against.next.Goals as goal

pub returns-then-not-eligible : goal.returns-then-not-eligible
returns-then-not-eligible g c =
    let a = c.args.self in
    let q = a.query.row in
    next-passed a.levels a.metric (g.R.Rows.at c.args.rows) (view_of q.scale q.norm a.codes.now) c.if-not-eligible.true c.requires.bounds.0 c.passed_over.ensures c.holds-valid.ensures

pub read-requires : goal.read-requires
read-requires g c = omega (arith, (c.ahead.ensures.here c.in-Some.is).0, c.requires.bounds.1)

pub returns-in-Some : goal.returns-in-Some
returns-in-Some g c =
    let a = c.args.self in
    let q = a.query.row in
    let s = c.in-Some.a in
    let at = g.R.Rows.at c.args.rows in
    let v = at s.row in
    next_here a.levels a.metric at (view_of q.scale q.norm a.codes.now) c.if-not-eligible.false c.in-Some.ensures
    (said_summed a.levels a.metric s.row v q.scale q.norm a.codes.now s.sums (c.ahead.ensures.here c.in-Some.is).1 (c.answer.ensures v.scale v.norm c.read.ensures))
