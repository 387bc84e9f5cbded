use Rattle.config.proofs.Coordinates.{finite_at, floats_at_lem}
use Rattle.config.proofs.Vectors.{length_floats}
use Rattle.std.proofs.Common.{sym, ap, ◌∙◌, arith}
use lib.Ieee.{binary32, of_bits}
use Rattle.float.proofs.BitLaws.{no_nan, widens}
use Rattle.math.proofs.RecordCoordinates.at.Goals as goal

pub overflow_mul-i : goal.overflow_mul-i
overflow_mul-i c =
    let r = c.args.self.now in
    record { fits = omega (arith, rw (length_floats r.n r.bytes.now r.at) at c.requires.in_bounds, r.readable.bytes) }

pub overflow_add-self : goal.overflow_add-self
overflow_add-self c =
    let r = c.args.self.now in
    record { fits = omega (arith, rw (length_floats r.n r.bytes.now r.at) at c.requires.in_bounds, r.readable.bytes) }

pub u32_at-x-requires : goal.u32_at-x-requires
u32_at-x-requires c =
    let r = c.args.self.now in
    omega (arith, rw (length_floats r.n r.bytes.now r.at) at c.requires.in_bounds, r.readable.bytes)

pub float_from_bits-x : goal.float_from_bits-x
float_from_bits-x c =
    let r = c.args.self.now in
    no_nan binary32 c.u32_at-x.result (rw c.u32_at-x.ensures (finite_at r.n r.bytes.now r.at c.args.i (rw (length_floats r.n r.bytes.now r.at) at c.requires.in_bounds) r.readable.fine))

pub float_to_float-result : goal.float_to_float-result
float_to_float-result c =
    let r = c.args.self.now in
    widens c.u32_at-x.result (no_nan binary32 c.u32_at-x.result (rw c.u32_at-x.ensures (finite_at r.n r.bytes.now r.at c.args.i (rw (length_floats r.n r.bytes.now r.at) at c.requires.in_bounds) r.readable.fine)))

pub returns : goal.returns
returns c =
    let r = c.args.self.now in
    ap (of_bits binary32) c.u32_at-x.ensures ∙ sym (floats_at_lem r.n r.bytes.now r.at c.args.i (rw (length_floats r.n r.bytes.now r.at) at c.requires.in_bounds))
