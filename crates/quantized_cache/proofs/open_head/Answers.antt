use mathlib.Core.Path.{sym}
use lib.ListN.{length}
use borrow.Author.Tests.{eq-eqb}
use Rattle.std.proofs.lemmas.Result.{err_from_is_err_and}
use Rattle.format.proofs.Heads.{bounds}
use Rattle.quantized_cache.specs.Open.{open_number}
use Rattle.quantized_cache.proofs.Sizes.{refused_before, sizing_in, passed}
use Rattle.quantized_cache.proofs.open_head.Goals as goal

pub returns-in_err-manifest-clause-told : goal.returns-in_err-manifest-clause-told
unfolding open_number
returns-in_err-manifest-clause-told c =
    let p = err_from_is_err_and c.from_residual.result c.from_residual.ensures.1 in
    rw (p.1, p.2) (refused_before c.in_err-manifest.field-0.0 _ c.in_err-manifest.ensures.told)

pub invariant_of-identity : goal.invariant_of-identity
invariant_of-identity c =
    let a = c.args in
    let p = passed a.m.now a.expected (length a.scratch.now) a.location.platform.now a.location.root.now a.options (sym c.in_ok-manifest.ensures.told) in
    let h = bounds a.m.now p.manifest.head in
    let s = (sizing_in a.m.now a.location.platform.now a.location.root.now a.options p.sizing).bounds in
    record { platform_short = s.platform-short; root_short = s.root-short; long = h.long; short = h.short }

pub returns-in_err-check_head-clause-told : goal.returns-in_err-check_head-clause-told
unfolding open_number
returns-in_err-check_head-clause-told c =
    let p = err_from_is_err_and c.from_residual-in_err-check_head.result c.from_residual-in_err-check_head.ensures.1 in
    let k = c.in_ok-manifest.ensures in
    rw (p.1, p.2, eq-eqb _ 0 (sym k.told)) (rw k.value.1 at c.in_err-check_head.ensures)

pub returns-clause-told : goal.returns-clause-told
unfolding open_number
returns-clause-told c =
    let k = c.in_ok-manifest.ensures in
    rw (eq-eqb _ 0 (sym k.told)) (rw k.value.1 at c.in_ok-check_head.ensures)
