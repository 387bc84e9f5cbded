use mathlib.Core.Path.{refl, ap, ◌∙◌}
use Prim.Native.Nat.{◌%◌, max}
use native.Mathlib.Omega.{arith}
use Rattle.quantization.proofs.Coordinates.{largest_turn, largest_done}
use Rattle.quantization.proofs.largest_bits.Goals as goal

pub loop-i-init : goal.loop-i-init
loop-i-init g c = record { so = refl }

pub loop-i-preserved : goal.loop-i-preserved
loop-i-preserved g c =
    largest_turn (omega (arith, c.loop-i-test.true, c.len-i-end.ensures)) (c.max-most.ensures ∙ ap (λ b. max c.loop-i.most (b % 2147483648)) c.pattern.ensures) c.loop-i.invariant

pub returns : goal.returns
returns g c = largest_done (omega (arith, c.loop-i-test.false, c.len-i-end.ensures)) c.loop-i.invariant
