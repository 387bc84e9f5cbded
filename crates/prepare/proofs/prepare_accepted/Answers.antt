use mathlib.Core.Path.{sym}
use lib.ListN.{length}
use borrow.Author.Tests.{ne_eqb}
use Rattle.std.proofs.lemmas.Result.{err_from_is_err_and}
use Rattle.config.specs.Told.{number_of}
use Rattle.config.proofs.Numbers.{some_number}
use Rattle.quantized_cache.specs.Size.{sizing_of}
use Rattle.quantized_cache.proofs.Sizes.{sizing_in}
use Rattle.prepare.specs.Prepare.{prepared_by}
use Rattle.prepare.proofs.Stored.{refused-sizing, sized}
use Rattle.prepare.proofs.prepare_accepted.Goals as goal

pub returns-in_err-size-clause-answer : goal.returns-in_err-size-clause-answer
unfolding prepared_by
returns-in_err-size-clause-answer c =
    let a = c.args in
    let m = a.accepted.manifest.bytes.now in
    let l = a.location in
    let p = err_from_is_err_and c.from_residual.result c.from_residual.ensures.1 in
    let e = c.in_err-size.ensures.told in
    let n = rw e at (some_number c.in_err-size.field-0.0) in
    rw (p.1, p.2, e, refused-sizing m a.segments.now l.platform.now l.root.now a.options (length a.cache.now) n, ne_eqb (sizing_of m l.platform.now l.root.now a.options) 0 n)

pub invariant_of-identity : goal.invariant_of-identity
invariant_of-identity c =
    let a = c.args in
    let m = a.accepted.manifest in
    let b = (sizing_in m.bytes.now a.location.platform.now a.location.root.now a.options (sym c.in_ok-size.ensures.told)).bounds in
    record { platform_short = b.platform-short; root_short = b.root-short; long = m.laid_out.long; short = m.laid_out.short }

pub returns-in_err-fill-clause-answer : goal.returns-in_err-fill-clause-answer
unfolding prepared_by
returns-in_err-fill-clause-answer c =
    let a = c.args in
    let l = a.location in
    let f = c.in_err-fill.field-0.0 in
    let p = err_from_is_err_and c.from_residual-in_err-fill.result c.from_residual-in_err-fill.ensures.1 in
    let e = rw c.in_ok-size.ensures.size at c.in_err-fill.ensures.told in
    rw (
      p.1,
      p.2,
      sized a.accepted.manifest.bytes.now a.segments.now l.platform.now l.root.now a.options (length a.cache.now) (sym c.in_ok-size.ensures.told),
      ← e,
      ne_eqb (number_of f.number) 0 (some_number f.number),
    )

pub returns-clause-answer : goal.returns-clause-answer
unfolding prepared_by
returns-clause-answer c =
    let a = c.args in
    let l = a.location in
    let e = rw c.in_ok-size.ensures.size at c.in_ok-fill.ensures.told in
    rw (
      sized a.accepted.manifest.bytes.now a.segments.now l.platform.now l.root.now a.options (length a.cache.now) (sym c.in_ok-size.ensures.told),
      ← e,
      c.info_of.ensures,
      c.in_ok-size.ensures.size,
    )
