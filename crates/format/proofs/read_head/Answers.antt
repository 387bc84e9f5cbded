use Rattle.format.specs.Fields.{generation_of, sequence_of, length_of_model, model_of, segments_of, rows_of}
use Rattle.format.specs.Head.{head_at}
use Rattle.format.proofs.read_head.Goals as goal

pub returns : goal.returns
unfolding head_at generation_of sequence_of length_of_model model_of segments_of rows_of
returns c =
    rw (c.u64_at-3.ensures, c.count_at.ensures.0, c.read_model.ensures, c.read_config.ensures, c.u64_at-2.ensures, c.u64_at.ensures, c.count_at-n.ensures.0)
