use mathlib.Core.Path.{refl}
use native.Mathlib.Omega.{arith}
use Rattle.codes.proofs.Rows.{check_start}
use Rattle.codes.proofs.Row.check.Goals as goal
use Rattle.codes.proofs.Row.check.Goals.{else-r-ge16, then-r-ge16}

pub part-s-requires-clause-checked : goal.part-s-requires-clause-checked
part-s-requires-clause-checked g c = check_start refl

pub loop-r-init : goal.loop-r-init
loop-r-init g c =
    elim c.if-r-ge16.branch [
      | then-r-ge16 w ↦ rw (w.s-is, w.i-is, w.r-is) (omega (arith, w.if-r-ge16.true), omega (arith, w.if-r-ge16.true), w.part-s.ensures)
      | else-r-ge16 w ↦ rw (w.s-is, w.i-is, w.r-is) (omega arith, omega (arith, w.if-r-ge16.false), check_start refl)
    ]
