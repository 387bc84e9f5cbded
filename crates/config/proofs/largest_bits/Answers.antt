use Rattle.config.proofs.Vectors.{largest-start, largest_turn, largest_done}
use Rattle.config.proofs.largest_bits.Goals as goal

pub loop-i-init : goal.loop-i-init
loop-i-init c = largest-start

pub loop-i-preserved : goal.loop-i-preserved
loop-i-preserved c = largest_turn c.u32_at.result c.loop-i-test.true c.u32_at.ensures c.max-most.ensures c.loop-i.invariant

pub returns : goal.returns
returns c = largest_done c.loop-i-test.false c.loop-i.invariant
