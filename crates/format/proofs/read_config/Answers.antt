use Rattle.format.specs.Fields.{dimensions_of, m_of, ef_of, seed_of}
use Rattle.format.proofs.read_config.Goals as goal

pub returns : goal.returns
unfolding dimensions_of m_of ef_of seed_of
returns c = rw (c.metric.ensures, c.u64_at.ensures, c.count_at-3.ensures.0, c.count_at-2.ensures.0, c.count_at.ensures.0)
