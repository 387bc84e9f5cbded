use borrow.Author.Tests.{ne_eqb}
use Rattle.std.proofs.lemmas.Result.{err_from_is_err_and}
use Rattle.config.proofs.Numbers.{some_number}
use Rattle.quantized_cache.specs.Size.{sized_by}
use Rattle.quantized_cache.proofs.size.Goals as goal

pub returns-in_err-size : goal.returns-in_err-size
unfolding sized_by
returns-in_err-size c =
    let p = err_from_is_err_and c.from_residual.result c.from_residual.ensures.1 in
    let e = c.in_err-size.ensures.told in
    (rw (p.1, p.2, e, ne_eqb _ 0 (rw e at (some_number c.in_err-size.field-0.0))), c.accept.ensures.scratch_after)

pub returns : goal.returns
unfolding sized_by
returns c =
    let k = c.in_ok-size.ensures in
    (rw (← k.told, k.value.1), c.accept.ensures.scratch_after)
