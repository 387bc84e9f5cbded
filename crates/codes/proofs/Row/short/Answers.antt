use mathlib.Core.Path.{refl}
use Rattle.codes.proofs.Rows.{check_start}
use Rattle.codes.proofs.Row.short.Goals as goal

pub ones-requires-clause-checked : goal.ones-requires-clause-checked
ones-requires-clause-checked g c = check_start refl

pub part-s-requires-clause-checked : goal.part-s-requires-clause-checked
part-s-requires-clause-checked g c = check_start refl
