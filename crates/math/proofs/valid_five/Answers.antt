use Rattle.math.specs.Four.{valid_five}
use Rattle.math.proofs.valid_five.Goals as goal

pub returns : goal.returns
unfolding valid_five
returns c =
    rw (c.validate_vector-5.ensures, c.validate_vector-4.ensures, c.validate_vector-3.ensures, c.validate_vector-2.ensures, c.validate_vector.ensures)
