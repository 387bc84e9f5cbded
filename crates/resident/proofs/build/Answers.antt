use mathlib.Core.Path.{sym, ap, ◌∙◌}
use lib.ListN.{length, replicate}
use borrow.Author.Tests.{ne_eqb}
use Rattle.std.proofs.lemmas.Result.{err_from_is_err_and}
use Rattle.config.proofs.Numbers.{some_number}
use Rattle.manifest.specs.Check.{manifest_number}
use Rattle.manifest.proofs.Passed.{cleared, left}
use Rattle.quantization.specs.Encoder.{base_levels, midpoints}
use Rattle.resident.specs.Build.{resident_answer}
use Rattle.resident.proofs.Answers.{slices_stay, refused-first, refused-next}
use Rattle.resident.proofs.build.Goals as goal

pub returns-in_err-m : goal.returns-in_err-m
unfolding resident_answer
returns-in_err-m c =
    let a = c.args in
    let m = a.manifest.now in
    let s = a.segments.now in
    let t = a.scratch.now in
    let p = err_from_is_err_and c.from_residual.result c.from_residual.ensures.1 in
    let e = c.in_err-m.ensures.told in
    let n = rw e at (some_number c.in_err-m.field-0.0) in
    let first = refused-first m a.expected_crc (length t) s (length a.codes.now) (length a.scales.now) (length a.norms.now) n in
    let k = slices_stay _ _ c.from_residual.ensures.1 base_levels midpoints m s a.codes.now a.scales.now a.norms.now in (
      rw (p.1, p.2, e, ← first, ne_eqb (manifest_number m a.expected_crc (length t)) 0 n),
      c.accept.ensures.scratch_after ∙ left m a.expected_crc t n,
      k.0,
      k.1,
      k.2,
    )

pub invariant_of-accepted : goal.invariant_of-accepted
invariant_of-accepted c =
    let k = c.in_ok-m in
    let f = k.ensures.filled in record { head = f.head; rows = f.rows; order = rw k.m.laid_out.rows f.order }

pub returns : goal.returns
returns c =
    let a = c.args in
    let t = a.scratch.now in
    let k = c.in_ok-m in
    let n = sym k.ensures.told in
    let f = c.build_accepted-built.ensures in
    let e = k.ensures.bytes in
    let next = refused-next a.manifest.now a.expected_crc (length t) a.segments.now (length a.codes.now) (length a.scales.now) (length a.norms.now) n in (
      rw (← next) (rw e at f.0),
      c.clear.ensures ∙ ap (λ i. replicate i 0) c.accept.auto.scratch ∙ cleared a.manifest.now a.expected_crc t n,
      rw e at f.1,
      rw e at f.2,
      rw e at f.3,
    )
