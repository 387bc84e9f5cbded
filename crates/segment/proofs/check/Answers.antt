use mathlib.Core.Path.{sym, ap, ◌∙◌}
use lib.ListN.{length, replicate}
use borrow.Author.Tests.{eq-eqb, ne_eqb}
use Rattle.std.proofs.lemmas.Result.{err_from_is_err_and}
use Rattle.config.proofs.Numbers.{some_number}
use Rattle.config.specs.Told.{number_of}
use Rattle.manifest.specs.Check.{manifest_number, checked_by}
use Rattle.manifest.proofs.Passed.{cleared, left}
use Rattle.segment.specs.Check.{library_refusal}
use Rattle.segment.proofs.check.Goals as goal

pub returns-in_err-m : goal.returns-in_err-m
unfolding checked_by library_refusal
returns-in_err-m c =
    let m = c.args.manifest.now in
    let t = c.args.scratch.now in
    let p = err_from_is_err_and c.from_residual.result c.from_residual.ensures.1 in
    let e = c.in_err-m.ensures.told in
    let n = rw e at (some_number c.in_err-m.field-0.0) in
    let q = ne_eqb (manifest_number m c.args.expected_crc (length t)) 0 n in
    (rw (p.1, p.2, e, q, q), c.accept.ensures.scratch_after ∙ left m c.args.expected_crc t n)

pub invariant_of-accepted : goal.invariant_of-accepted
invariant_of-accepted c =
    let k = c.in_ok-m in
    let f = k.ensures.filled in record { head = f.head; rows = f.rows; order = rw k.m.laid_out.rows f.order }

pub returns-in_err-checked : goal.returns-in_err-checked
unfolding checked_by library_refusal
returns-in_err-checked c =
    let k = c.in_ok-m in
    let m = c.args.manifest.now in
    let t = c.args.scratch.now in
    let n = sym k.ensures.told in
    let p = err_from_is_err_and c.from_residual-in_err-checked.result c.from_residual-in_err-checked.ensures.1 in
    let e = rw k.ensures.bytes at c.in_err-checked.ensures in
    let r = c.in_err-checked.field-0.0 in (
      rw (p.1, p.2, eq-eqb (manifest_number m c.args.expected_crc (length t)) 0 n, ← e, ne_eqb (number_of r.number) 0 (some_number r.number)),
      c.clear.ensures ∙ ap (λ n. replicate n 0) c.accept.auto.scratch ∙ cleared m c.args.expected_crc t n,
    )

pub returns : goal.returns
unfolding checked_by library_refusal
returns c =
    let k = c.in_ok-m in
    let m = c.args.manifest.now in
    let t = c.args.scratch.now in
    let n = sym k.ensures.told in
    let e = rw k.ensures.bytes at c.in_ok-checked.ensures in (
      rw (eq-eqb (manifest_number m c.args.expected_crc (length t)) 0 n, ← e, c.head.ensures, k.ensures.bytes),
      c.clear.ensures ∙ ap (λ n. replicate n 0) c.accept.auto.scratch ∙ cleared m c.args.expected_crc t n,
    )
