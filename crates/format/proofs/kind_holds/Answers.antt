use Rattle.config.proofs.Metrics.{metric-bytes}
use Rattle.format.specs.Fields.{metric_byte, length_of_model}
use Rattle.format.specs.Head.{kind_ok}
use Rattle.format.proofs.kind_holds.Goals as goal

pub returns : goal.returns
unfolding kind_ok metric_byte length_of_model
returns c = rw (metric-bytes, c.span.ensures, c.count_at.ensures.0)
