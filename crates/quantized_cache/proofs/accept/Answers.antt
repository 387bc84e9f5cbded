use mathlib.Core.Path.{sym, ap, ◌∙◌}
use lib.ListN.{replicate}
use borrow.Author.Tests.{eq-eqb}
use Rattle.std.proofs.lemmas.Result.{err_from_is_err_and}
use Rattle.config.proofs.Numbers.{some_number}
use Rattle.manifest.proofs.Passed.{cleared, left}
use Rattle.quantized_cache.specs.Size.{size_number}
use Rattle.quantized_cache.proofs.Sizes.{refused_before}
use Rattle.quantized_cache.proofs.accept.Goals as goal

pub returns-in_err-manifest-clause-told : goal.returns-in_err-manifest-clause-told
unfolding size_number
returns-in_err-manifest-clause-told c =
    let p = err_from_is_err_and c.from_residual.result c.from_residual.ensures.1 in
    rw (p.1, p.2) (refused_before c.in_err-manifest.field-0.0 _ c.in_err-manifest.ensures.told)

pub returns-in_err-manifest-clause-scratch_after : goal.returns-in_err-manifest-clause-scratch_after
returns-in_err-manifest-clause-scratch_after c =
    let a = c.args in
    let n = rw c.in_err-manifest.ensures.told at (some_number c.in_err-manifest.field-0.0) in
    c.accept.ensures.scratch_after ∙ left a.m.now a.expected a.scratch.now n

pub returns-in_err-size-clause-told : goal.returns-in_err-size-clause-told
unfolding size_number
returns-in_err-size-clause-told c =
    let p = err_from_is_err_and c.from_residual-in_err-size.result c.from_residual-in_err-size.ensures.1 in
    let k = c.in_ok-manifest.ensures in
    rw (p.1, p.2, eq-eqb _ 0 (sym k.told)) (rw k.bytes at c.in_err-size.ensures.told)

pub returns-in_err-size-clause-scratch_after : goal.returns-in_err-size-clause-scratch_after
returns-in_err-size-clause-scratch_after c =
    let a = c.args in
    c.clear.ensures ∙ ap (λ n. replicate n 0) c.accept.auto.scratch ∙ cleared a.m.now a.expected a.scratch.now (sym c.in_ok-manifest.ensures.told)

pub returns-clause-told : goal.returns-clause-told
unfolding size_number
returns-clause-told c =
    let k = c.in_ok-manifest.ensures in
    rw (eq-eqb _ 0 (sym k.told)) (rw k.bytes at c.in_ok-size.ensures.told)

pub returns-clause-scratch_after : goal.returns-clause-scratch_after
returns-clause-scratch_after c =
    let a = c.args in
    c.clear.ensures ∙ ap (λ n. replicate n 0) c.accept.auto.scratch ∙ cleared a.m.now a.expected a.scratch.now (sym c.in_ok-manifest.ensures.told)
