use mathlib.Core.Path.{refl, ◌∙◌, ap}
use native.Mathlib.Omega.{arith}
use lib.Dec.{leb}
use Prim.Native.Nat.{◌^◌, ◌<◌}
use lib.ListN.{length, length-map}
use mir.Syntax.{w64}
use mir.Facts.{to_z-of_z}
use lib.Ieee.{binary32, of_bits}
use Rattle.quantization.proofs.Codes.{as_i8, square_le}
use Rattle.quantization.proofs.Stores.{at_pattern, stored_start, stored_asks, stored_turn, stored_done}
use Rattle.quantization.proofs.Encoder.encode.Goals as goal

pub loop-i-init : goal.loop-i-init
loop-i-init g c =
    stored_start c.args.self.now.counted (g.S.Source.patterns c.args.source.now) refl c.requires.finite (rw c.largest_bits.ensures at c.scale-scale.ensures)

pub pattern-b-requires : goal.pattern-b-requires
pattern-b-requires g c = record { in_bounds = omega (arith, c.requires.lengths.0, c.loop-i-test.true); finite = c.requires.finite }

pub magnitude-m-requires : goal.magnitude-m-requires
magnitude-m-requires g c =
    stored_asks c.loop-i.invariant (at_pattern (g.S.Source.patterns c.args.source.now) (omega (arith, c.requires.lengths.0, c.loop-i-test.true)) c.pattern-b.ensures)

pub overflow_mul-norm : goal.overflow_mul-norm
overflow_mul-norm g c = omega (arith, square_le c.magnitude-m.result c.magnitude-m.ensures.1)

pub overflow_add-norm : goal.overflow_add-norm
overflow_add-norm g c = omega (arith, square_le c.magnitude-m.result c.magnitude-m.ensures.1, c.loop-i.invariant.small, c.loop-i-test.true, c.requires.lengths.1)

pub loop-i-preserved : goal.loop-i-preserved
loop-i-preserved g c =
    let m = c.magnitude-m in
    let p = g.S.Source.patterns c.args.source.now in
    let k : c.loop-i.i < length p = omega (arith, c.requires.lengths.0, c.loop-i-test.true) in
    stored_turn c.loop-i.invariant (at_pattern p k c.pattern-b.ensures) m.ensures
    (c.of.ensures ∙ ap g.C.Stored.stored (as_i8 (leb (2 ^ 31) c.pattern-b.result) m.result m.ensures.1 c.code.ensures)) refl (omega arith) refl

pub returns : goal.returns
returns g c =
    let p = g.S.Source.patterns c.args.source.now in
    let n = length-map p (of_bits binary32) in
    let w = stored_done c.loop-i.invariant (rw n (omega (arith, c.requires.lengths.0, c.loop-i-test.false, c.loop-i.auto.i-end))) (rw n c.requires.lengths.0) (rw n (omega (arith, c.requires.lengths.0, c.requires.lengths.1))) in
    (w.so, w.scale, rw c.from.ensures (to_z-of_z {w = w64} (record { sfits = omega (arith, c.loop-i.invariant.small, c.loop-i-test.false, c.loop-i.auto.i-end, c.requires.lengths.1) }) ∙ w.norm))
