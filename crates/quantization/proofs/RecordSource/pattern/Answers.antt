use mathlib.Core.Path.{sym, ◌∙◌}
use native.Mathlib.Omega.{arith}
use Rattle.config.proofs.Vectors.{length_patterns}
use Rattle.quantization.proofs.Coordinates.{pattern_at}
use Rattle.quantization.proofs.RecordSource.pattern.Goals as goal

pub overflow_mul-i : goal.overflow_mul-i
overflow_mul-i c =
    let r = c.args.self.now in
    record { fits = omega (arith, c.requires.in_bounds, length_patterns r.n r.bytes.now r.at, r.in_bounds) }

pub overflow_add-self : goal.overflow_add-self
overflow_add-self c =
    let r = c.args.self.now in
    record { fits = omega (arith, c.requires.in_bounds, length_patterns r.n r.bytes.now r.at, r.in_bounds) }

pub u32_at-requires : goal.u32_at-requires
u32_at-requires c =
    let r = c.args.self.now in
    omega (arith, c.requires.in_bounds, length_patterns r.n r.bytes.now r.at, r.in_bounds)

pub returns : goal.returns
returns c =
    let r = c.args.self.now in
    c.u32_at.ensures ∙ sym (pattern_at r.n r.bytes.now r.at c.args.i (omega (arith, c.requires.in_bounds, length_patterns r.n r.bytes.now r.at)))
