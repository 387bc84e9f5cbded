use mathlib.Core.Path.{sym}
use Rattle.std.proofs.lemmas.Result.{err_from_is_err_and}
use Rattle.cache_format.proofs.Sizes.{sized}
use Rattle.quantized_cache.specs.Size.{sizing_of}
use Rattle.quantized_cache.proofs.sizing.Goals as goal

pub returns-in_err-check_sizing-clause-told : goal.returns-in_err-check_sizing-clause-told
unfolding sizing_of
returns-in_err-check_sizing-clause-told c =
    let p = err_from_is_err_and c.from_residual.result c.from_residual.ensures.1 in
    let l = c.args.m.laid_out in
    rw (p.1, p.2) (rw (l.rows, l.dimensions) at c.in_err-check_sizing.ensures)

pub invariant_of-identity : goal.invariant_of-identity
invariant_of-identity c =
    let l = c.args.m.laid_out in
    let h = (sized _ _ _ _ _ _ _ (sym c.in_ok-check_sizing.ensures)).bounds in
    record { platform_short = h.platform-short; root_short = h.root-short; long = l.long; short = l.short }
