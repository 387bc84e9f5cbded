use mathlib.Core.Path.{sym, ◌∙◌}
use Rattle.config.specs.Vector.{floats_at}
use Rattle.config.proofs.Coordinates.{valid_parts}
use Rattle.vectors_quantization.proofs.original_line.Goals as goal

pub measure-requires : goal.measure-requires
measure-requires c =
    (valid_parts c.args.metric 43 (floats_at 43 c.args.s.now 0) (sym c.validate_record.ensures ∙ c.if-validate_record.true)).1
