use Rattle.config.proofs.Vectors.{by_largest}
use Rattle.config.proofs.validate_record.Goals as goal

pub returns : goal.returns
returns c =
    let a = c.args in
    rw (c.largest_bits-most.ensures, c.is_cosine.ensures) (by_largest a.metric a.n a.s.now a.at)
