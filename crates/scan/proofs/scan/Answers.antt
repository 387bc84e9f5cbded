use borrow.Author.Rules.{rules}
use native.Mathlib.Omega.{arith}
use Prim.Native.Nat.{◌+◌, ◌≤◌}
use Rattle.row.specs.Answer.{view_of}
use Rattle.search_spec.specs.Lent.{wanted_of, everyone}
use Rattle.search_spec.specs.Lists.{is_eligible}
use Rattle.eligible.proofs.Walk.{begun, count_none}
use Rattle.cosine.proofs.Far.{never}
use Rattle.scan.proofs.ScanLaws.{Went, starts, asked, keeps, skips, stops, ends, went, gone, count_went, low_went, cursor_went}
use Rattle.scan.proofs.scan.Given as given
use Rattle.scan.proofs.scan.Goals as goal
use Rattle.scan.proofs.scan.Goals.{in-Distance, in-PassedOver, After-next-a}

-- what a turn has gone over
over : (g : given.Over) (c : After-next-a g)
    → let a = c.args.against in
    let q = a.query.row in
    let m = c.args.table.manifest.bytes.now in
    Went a.levels m (is_eligible (wanted_of c.args.wanted) everyone m) (g.R.Rows.at c.args.rows) (view_of q.scale q.norm a.codes.now) c.row_step-e.result.eligible c.loop-row.row c.loop-row.top c.next-a.result
over g c = went (wanted_of c.args.wanted) c.next-a.ensures c.requires.slices.0 c.args.table.manifest.laid_out.rows c.reach-to.ensures c.loop-row-test.true c.row_step-e.ensures.is

pub loop-row-init : goal.loop-row-init
loop-row-init g c =
    (omega arith, begun _ _, starts _ _ _ _ _ c.args.ks.now c.args.rs.now c.requires.slices.1 c.bar-top.ensures (c.type_inv.rs 0).fits, record { far = never _ _; cosine = λ l. absurd (omega arith) }, count_none _)

pub overflow_add-eligible-in-loop-row : goal.overflow_add-eligible-in-loop-row
overflow_add-eligible-in-loop-row g c =
    let W = over g (goal.at.overflow_add-eligible-in-loop-row g c).After-next-a in
    omega (arith, low_went W c.loop-row.invariant.4, c.args.table.manifest.laid_out.most)

pub keep-h-requires-clause-count_in_bounds : goal.keep-h-requires-clause-count_in_bounds
keep-h-requires-clause-count_in_bounds g c =
    let W = over g (goal.at.keep-h-requires-clause-count_in_bounds g c).After-next-a in
    (asked (gone W c.loop-row.invariant.2) W.low (W.said.measured c.in-Distance.is)).0

pub keep-h-requires-clause-heap_from : goal.keep-h-requires-clause-heap_from
keep-h-requires-clause-heap_from g c =
    let W = over g (goal.at.keep-h-requires-clause-heap_from g c).After-next-a in
    (asked (gone W c.loop-row.invariant.2) W.low (W.said.measured c.in-Distance.is)).1

pub returns-in-Refused : goal.returns-in-Refused
returns-in-Refused g c =
    let W = over g (goal.at.returns-in-Refused g c).After-next-a in
    let L = c.loop-row in
    stops (gone W L.invariant.2) W.low (W.said.refused c.in-Refused.is) L.ks L.rs

pub loop-row-preserved : goal.loop-row-preserved
loop-row-preserved g c =
    let W = over g (goal.at.loop-row-preserved g c).After-next-a in
    let L = c.loop-row in
    let S = gone W L.invariant.2 in
    let low : c.next-a.result.row + 1 ≤ c.args.table.manifest.layout.rows = omega (arith, W.low, c.args.table.manifest.laid_out.rows) in
    let cursor = cursor_went W c.row_step-e.ensures.next in
    let more = count_went W L.invariant.4 in
    elim c.match-a.branch [
      | in-Distance w ↦
          let K = w.keep-h in (
            low,
            cursor,
            rw (w.ks-is, w.rs-is, w.count-is, w.top-is)
                (keeps S W.low (W.said.measured w.in-Distance.is) K.new.ks K.new.rs K.result K.ensures K.auto.ks K.auto.rs (search rules)),
            rw (w.top-is, w.far-is) w.far_bound-far.ensures,
            more,
          )
      | in-PassedOver w ↦
          (low, cursor, rw (w.ks-is, w.rs-is, w.count-is, w.top-is) (skips S W.low (W.said.passed w.in-PassedOver.is)), rw (w.top-is, w.far-is) L.invariant.3, more)
    ]

pub returns : goal.returns
returns g c =
    let L = c.loop-row in
    let t = c.args.table in
    let r = t.manifest.laid_out in
    let a = c.args.against in
    let e = is_eligible (wanted_of c.args.wanted) everyone t.manifest.bytes.now in
    ends {eligible = e} {query = view_of a.query.row.scale a.query.row.norm a.codes.now} L.invariant.2 L.invariant.4
    (omega (arith, L.invariant.0, r.rows)) (omega (arith, c.loop-row-test.false, r.rows)) t.rules (omega (arith, r.most))
