use Prim.Native.Nat.{◌%◌}
use native.Mathlib.Omega.{arith}
use Rattle.root.proofs.Squares.{shifted}
use Rattle.root.proofs.Scaled.radicand.Goals as goal

pub invariant_of-result : goal.invariant_of-result
invariant_of-result c =
    let z = c.args.self in
    let s = shifted z.digits.value (z.exponent % 2) z.digits.full z.digits.short (omega arith) in
    rw c.from.ensures (record { low = omega arith; high = omega arith })
