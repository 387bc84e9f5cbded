use Prim.Native.Nat.{◌≤◌}
use Rattle.row.specs.Answer.{view_of}
use Rattle.scan.proofs.Going.{Gone}
use Rattle.scan.proofs.Against.ahead.Given as goal

abbrev pub invariant-loop-i : goal.invariant-loop-i
invariant-loop-i g l =
    let q = l.self.query.row in
    (l.row ≤ l.i) × Gone l.self.levels l.self.metric (g.R.Rows.at l.rows) (view_of q.scale q.norm l.self.codes.now) l.row l.top l.i
