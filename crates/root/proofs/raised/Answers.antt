use Prim.Native.Nat.{◌*◌, ◌^◌}
use native.Mathlib.Omega.{arith}
use Rattle.root.proofs.Scales.{doubled, room}
use Rattle.root.proofs.raised.Goals as goal

pub loop-d-preserved : goal.loop-d-preserved
loop-d-preserved c =
    let L = c.loop-d in
    let t = c.args.tail in
    (doubled L.d L.e (t * 2 ^ 1074) (omega arith) L.invariant.0, omega arith, omega (arith, room L.d L.e t c.loop-d-test.true (omega arith) L.invariant.0), omega arith)
