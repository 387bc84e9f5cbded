use mathlib.Core.Path.{◌≡◌, ◌∙◌}
use native.Mathlib.Omega.{arith}
use Rattle.format.specs.Fields.{rows_of}
use Rattle.search_spec.specs.Lists.{eligible}
use Rattle.eligible.proofs.Walk.{begun, count_none, count_next, count_low, none-every, all-eligible}
use Rattle.eligible.proofs.count.Goals as goal

pub returns-then-is_none : goal.returns-then-is_none
returns-then-is_none c =
    let t = c.args.table.manifest in
    rw (none-every c.args.wanted c.if-is_none.ensures) (t.laid_out.rows ∙ all-eligible t.bytes.now)

pub loop-row-init : goal.loop-row-init
loop-row-init c = (begun c.args.table.manifest.bytes.now _, count_none _)

pub overflow_add-total : goal.overflow_add-total
overflow_add-total c =
    let L = c.loop-row in
    let t = c.args.table.manifest.laid_out in
    omega (arith, count_low _ L.row L.invariant.1 c.row_step-s.ensures.is, c.loop-row-test.true, t.rows, t.most)

pub loop-row-preserved : goal.loop-row-preserved
loop-row-preserved c =
    let L = c.loop-row in
    let t = c.row_step-s.ensures in
    (t.next, count_next _ L.row L.invariant.1 t.is)

pub returns : goal.returns
unfolding eligible
returns c =
    let L = c.loop-row in
    let m = c.args.table.manifest in
    let e : L.row ≡ rows_of m.bytes.now = omega (arith, L.auto.row-end, c.loop-row-test.false, m.laid_out.rows) in
    rw (← e) L.invariant.1
