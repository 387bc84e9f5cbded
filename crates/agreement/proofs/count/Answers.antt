use mathlib.Core.Path.{sym, ◌∙◌}
use native.Mathlib.Omega.{arith}
use Rattle.std.proofs.lemmas.Result.{err_from_is_err_and}
use Rattle.config.proofs.Numbers.{some_number}
use Rattle.eligible.proofs.Walk.{begun}
use Rattle.search_spec.specs.Lent.{wanted_of}
use Rattle.eligible.specs.Walk.{ids_of}
use Rattle.agreement.proofs.Counting.{counting_start, counting_skip, counting_turn, counting_stop, counting_end}
use Rattle.agreement.proofs.count.Goals as goal
use Rattle.agreement.proofs.count.Goals.{then-e+in_ok-key, else-e}

pub loop-row-init : goal.loop-row-init
loop-row-init c = (begun c.args.original.now.library.manifest.bytes.now (ids_of (wanted_of c.args.wanted)), counting_start c.requires.listed)

pub returns-in_err-key : goal.returns-in_err-key
returns-in_err-key c =
    let p = err_from_is_err_and c.from_residual.result c.from_residual.ensures.1 in
    let m = c.table-table.ensures.0 in
    let t = rw m at c.row_step-e.ensures in
    let h = rw m at (rw c.table-table.result.manifest.laid_out.rows at c.loop-row-test.true) in
    rw (p.1, p.2) (counting_stop c.requires.listed c.loop-row.invariant.1 h (sym t.is ∙ c.if-e.true) (some_number c.in_err-key.field-0.0.number) c.in_err-key.ensures.refused)

pub loop-row-preserved : goal.loop-row-preserved
loop-row-preserved c =
    let L = c.requires.listed in
    let C = c.loop-row.invariant.1 in
    let m = c.table-table.ensures.0 in
    let t = rw m at c.row_step-e.ensures in
    let h = rw m at (rw c.table-table.result.manifest.laid_out.rows at c.loop-row-test.true) in (
      t.next,
      elim c.if-e.branch [
        | then-e+in_ok-key w ↦ rw w.n-is (counting_turn L C h (sym t.is ∙ w.if-e.true) w.in_ok-key.ensures.refused w.in_ok-key.ensures.key w.ahead-n.ensures)
        | else-e w ↦ rw w.n-is (counting_skip L C (sym t.is ∙ w.if-e.false))
      ],
    )

pub returns : goal.returns
returns c =
    let p = rw c.table-table.ensures.0 at c.table-table.result.manifest.laid_out.rows in
    counting_end c.requires.listed c.loop-row.invariant.1 (omega (arith, c.loop-row.auto.row-end, c.loop-row-test.false, p))
