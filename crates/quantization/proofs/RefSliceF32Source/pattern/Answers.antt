use Rattle.quantization.proofs.Coordinates.{bits_number}
use Rattle.quantization.proofs.RefSliceF32Source.pattern.Goals as goal

pub float_to_bits-result : goal.float_to_bits-result
float_to_bits-result c = bits_number c.args.self.now.now c.args.i c.requires.in_bounds c.requires.finite
