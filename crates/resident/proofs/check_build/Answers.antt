use mathlib.Core.Path.{sym}
use borrow.Author.Tests.{eq-eqb, ne_eqb}
use Rattle.std.proofs.lemmas.Result.{err_from_is_err_and}
use Rattle.config.proofs.Numbers.{some_number}
use Rattle.resident.specs.Build.{planned_refusal}
use Rattle.resident.proofs.check_build.Goals as goal

pub returns-in_err-check : goal.returns-in_err-check
unfolding planned_refusal
returns-in_err-check c =
    let l = c.args.library.now.manifest.laid_out in
    let p = err_from_is_err_and c.from_residual.result c.from_residual.ensures.1 in
    let e = rw (l.rows, l.dimensions) at c.in_err-check.ensures in
    rw (p.1, p.2, e, ne_eqb _ 0 (rw e at (some_number c.in_err-check.field-0.0)))

pub returns : goal.returns
unfolding planned_refusal
returns c =
    let l = c.args.library.now.manifest.laid_out in
    let e = rw (l.rows, l.dimensions) at c.in_ok-check.ensures in
    rw (eq-eqb _ 0 (sym e)) c.check_records.ensures
