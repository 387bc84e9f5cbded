use borrow.Author.Tests.{ne_eqb}
use Rattle.std.proofs.lemmas.Result.{err_from_is_err_and}
use Rattle.config.specs.Told.{number_of}
use Rattle.config.proofs.Numbers.{some_number}
use Rattle.quantization.specs.Encoder.{base_levels, midpoints}
use Rattle.resident.specs.Build.{resident_answer}
use Rattle.resident.proofs.Answers.{slices_stay}
use Rattle.resident.proofs.build_accepted.Goals as goal

pub returns-in_err-check_build : goal.returns-in_err-check_build
unfolding resident_answer
returns-in_err-check_build c =
    let a = c.args in
    let f = c.in_err-check_build.field-0.0 in
    let p = err_from_is_err_and c.from_residual.result c.from_residual.ensures.1 in
    let k = slices_stay _ _ c.from_residual.ensures.1 base_levels midpoints a.accepted.manifest.bytes.now a.segments.now a.codes.now a.scales.now a.norms.now in
    (rw (p.1, p.2, ← c.in_err-check_build.ensures, ne_eqb (number_of f.number) 0 (some_number f.number)), k.0, k.1, k.2)

pub returns : goal.returns
unfolding resident_answer
returns c =
    let f = rw c.new-encoder.ensures at c.fill.ensures in
    (rw (← c.in_ok-check_build.ensures, c.head.ensures), f.0, f.1, f.2)
