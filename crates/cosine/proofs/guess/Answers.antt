use Rattle.float.proofs.BitLaws.{number_of_lt}
use Rattle.cosine.proofs.guess.Goals as goal

pub float_to_bits-result : goal.float_to_bits-result
float_to_bits-result c = number_of_lt _ _ c.if-z.true
