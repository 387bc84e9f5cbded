use Prim.Native.Nat.{ℕ, ◌*◌, ◌/◌, ◌%◌, ◌<◌}
use mathlib.Core.Path.{◌≡◌}
use native.Mathlib.Omega.{arith}
use lib.IntN.{ℤ, pos, ◌-ℤ◌, ◌*ℤ◌}
use lib.Signed.{quot_z}
use mir.Syntax.{w8, w16, w32}
use mir.Val.{SFits, to_z, of_z}
use mir.Facts.{to_z-of_z, to_z_pos, sfits_widen}
use Rattle.codes.proofs.Numbers.{small, wide_fits, raised, raised-size, raised-fits, raised-held, byte_back}
use Rattle.codes.proofs.widened.Goals as goal

held : (n : ℕ) → n < 32768 → to_z w16 n ≡ pos n
held n h = to_z_pos w16 {n = n} h

-- the difference, of the numbers that the locals hold
abbrev over : ℕ → ℤ
over b = to_z w16 b -ℤ to_z w16 (of_z w16 (to_z w16 (of_z w16 (quot_z (to_z w16 b) (pos 128))) *ℤ pos 256))

over-is : {x : ℤ} → SFits w8 x → over (raised x % 256) ≡ x
over-is {x} f =
    let b = raised x % 256 in
    rw (held b (omega arith), held (b / 128) (omega arith), held (b / 128 * 256) (omega arith)) (byte_back x f)

pub returns : goal.returns
returns c =
    let x = c.args.x in
    let f = c.ranges.x in
    let e : to_z w16 (of_z w16 (over (raised x % 256))) ≡ x = rw (over-is f) (to_z-of_z {w = w16} (sfits_widen tt f)) in
    rw (raised-held f) e

pub overflow_sub-result : goal.overflow_sub-result
overflow_sub-result c =
    let f = c.ranges.x in
    let e : SFits w16 (over (raised c.args.x % 256)) = rw (over-is f) (sfits_widen tt f) in
    rw (raised-held f) e

pub overflow_mul-result : goal.overflow_mul-result
overflow_mul-result c =
    let b = raised c.args.x % 256 in
    rw (raised-held c.ranges.x, held b (omega arith), held (b / 128) (omega arith)) (small (omega arith))

pub nonzero_div-result : goal.nonzero_div-result
nonzero_div-result c =
    let b = raised c.args.x % 256 in
    rw (raised-held c.ranges.x, held b (omega arith)) (omega arith, small (omega arith))

pub overflow_cast-byte : goal.overflow_cast-byte
overflow_cast-byte c = wide_fits w32 tt c.ranges.x

pub overflow_add-byte : goal.overflow_add-byte
overflow_add-byte c = raised-fits c.ranges.x

pub overflow_cast-byte-2 : goal.overflow_cast-byte-2
overflow_cast-byte-2 c = rw (raised-held c.ranges.x) (tt, omega (arith, raised-size c.args.x c.ranges.x))
