use Rattle.format.specs.Fields.{metric_byte, metric_at}
use Rattle.format.proofs.metric.Goals as goal

pub returns : goal.returns
unfolding metric_at metric_byte
returns c = c.metric_of.ensures
