use mir.Facts.{to_z-of_z}
use Rattle.codes.proofs.Rows.{code-checked}
use Rattle.codes.proofs.add_code_check.Goals as goal

pub returns : goal.returns
returns c = code-checked (to_z-of_z c.ranges.x) c.square.ensures c.within.ensures
