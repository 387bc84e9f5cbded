use mathlib.Core.Path.{sym, ap, ◌∙◌}
use lib.ListN.{length, replicate}
use borrow.Author.Tests.{ne_eqb}
use Rattle.std.proofs.lemmas.Result.{err_from_is_err_and}
use Rattle.config.proofs.Numbers.{some_number}
use Rattle.manifest.specs.Check.{manifest_number, checked_by}
use Rattle.manifest.proofs.Passed.{accepted, cleared, left}
use Rattle.manifest.proofs.check.Goals as goal

pub returns-in_err-accepted : goal.returns-in_err-accepted
unfolding checked_by
returns-in_err-accepted c =
    let m = c.args.manifest.now in
    let t = c.args.scratch.now in
    let p = err_from_is_err_and c.from_residual.result c.from_residual.ensures.1 in
    let e = c.in_err-accepted.ensures.told in
    let n = rw e at (some_number c.in_err-accepted.field-0.0) in
    (rw (p.1, p.2, e, ne_eqb (manifest_number m c.args.expected_crc (length t)) 0 n), c.accept.ensures.scratch_after ∙ left m c.args.expected_crc t n)

pub head-requires : goal.head-requires
head-requires c =
    let k = c.in_ok-accepted in
    rw k.ensures.bytes (accepted c.args.manifest.now c.args.expected_crc (length c.args.scratch.now) (sym k.ensures.told)).0.head

pub returns : goal.returns
unfolding checked_by
returns c =
    let m = c.args.manifest.now in
    let t = c.args.scratch.now in
    let k = c.in_ok-accepted in
    (rw (← k.ensures.told, c.head.ensures, k.ensures.bytes), c.clear.ensures ∙ ap (λ n. replicate n 0) c.accept.auto.scratch ∙ cleared m c.args.expected_crc t (sym k.ensures.told))
