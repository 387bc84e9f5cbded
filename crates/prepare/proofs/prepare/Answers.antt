use mathlib.Core.Path.{sym, ap, ◌∙◌}
use lib.ListN.{length, replicate}
use borrow.Author.Tests.{ne_eqb}
use Rattle.std.proofs.lemmas.Result.{err_from_is_err_and}
use Rattle.config.proofs.Numbers.{some_number}
use Rattle.manifest.specs.Check.{manifest_number}
use Rattle.manifest.proofs.Passed.{cleared, left}
use Rattle.prepare.specs.Prepare.{prepared_by}
use Rattle.prepare.proofs.Stored.{refused-manifest, accepted-manifest, cache_stays}
use Rattle.prepare.proofs.prepare.Goals as goal

pub returns-in_err-m : goal.returns-in_err-m
unfolding prepared_by
returns-in_err-m c =
    let a = c.args in
    let m = a.manifest.now in
    let l = a.location in
    let t = a.scratch.now in
    let p = err_from_is_err_and c.from_residual.result c.from_residual.ensures.1 in
    let e = c.in_err-m.ensures.told in
    let n = rw e at (some_number c.in_err-m.field-0.0) in (
      rw (
        p.1,
        p.2,
        e,
        refused-manifest m a.expected_crc (length t) a.segments.now l.platform.now l.root.now a.options (length a.cache.now) n,
        ne_eqb (manifest_number m a.expected_crc (length t)) 0 n,
      ),
      cache_stays _ _ c.from_residual.ensures.1 m a.segments.now l.platform.now l.root.now a.cache.now,
      c.accept.ensures.scratch_after ∙ left m a.expected_crc t n,
    )

pub invariant_of-accepted : goal.invariant_of-accepted
invariant_of-accepted c =
    let k = c.in_ok-m in
    let f = k.ensures.filled in record { head = f.head; rows = f.rows; order = rw k.m.laid_out.rows f.order }

pub returns : goal.returns
returns c =
    let a = c.args in
    let m = a.manifest.now in
    let l = a.location in
    let t = a.scratch.now in
    let k = c.in_ok-m in
    let n = sym k.ensures.told in
    let f = c.prepare_accepted-prepared.ensures in (
      rw (accepted-manifest m a.expected_crc (length t) a.segments.now l.platform.now l.root.now a.options (length a.cache.now) n) (rw k.ensures.bytes at f.answer),
      rw k.ensures.bytes at f.cache_after,
      c.clear.ensures ∙ ap (λ i. replicate i 0) c.accept.auto.scratch ∙ cleared m a.expected_crc t n,
    )
