use Rattle.quantization.proofs.Walks.{started}
use lib.Ieee.{of_bits}
use Rattle.quantization.proofs.Encoder.start.Goals as goal

pub float_to_bits-result : goal.float_to_bits-result
unfolding of_bits
float_to_bits-result c =
    rw c.held.ensures (started c.args.self.now.counted c.args.x c.requires.0 c.requires.1).number

pub overflow_sub-result : goal.overflow_sub-result
unfolding of_bits
overflow_sub-result c = rw c.held.ensures (started c.args.self.now.counted c.args.x c.requires.0 c.requires.1).least

pub returns : goal.returns
unfolding of_bits
returns c = rw c.held.ensures (started c.args.self.now.counted c.args.x c.requires.0 c.requires.1).start
