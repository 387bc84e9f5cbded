use mathlib.Core.Path.{refl}
use native.Mathlib.Omega.{arith}
use Rattle.codes.proofs.Rows.{sums-start}
use Rattle.codes.proofs.Pair.short.Goals as goal

pub ones-requires-clause-summed : goal.ones-requires-clause-summed
ones-requires-clause-summed g c = sums-start refl (rw g.met.C.Code.as_many c.args.self.now.as_long) (omega arith)
