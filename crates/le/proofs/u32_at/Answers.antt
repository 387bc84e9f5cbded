use mathlib.Core.Path.{◌∙◌}
use Rattle.le.proofs.LeLaws.{sum_at}
use Rattle.le.proofs.u32_at.Goals as goal

pub returns : goal.returns
returns c = c.from_le_bytes.ensures ∙ rw c.array_at.ensures (sum_at c.args.s.now c.args.at 3 c.requires)
