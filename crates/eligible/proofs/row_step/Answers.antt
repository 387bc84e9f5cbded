use native.Mathlib.Omega.{arith}
use Rattle.eligible.proofs.Walk.{turned_every, turned_only}
use Rattle.eligible.proofs.row_step.Goals as goal

pub returns-in-None : goal.returns-in-None
returns-in-None c = turned_every c.in-None.is c.requires.sorted.1

pub returns-in-Some : goal.returns-in-Some
returns-in-Some c =
    let t = c.args.table in
    turned_only c.in-Some.is t.rules (omega (arith, c.requires.row, t.manifest.laid_out.rows)) (rw c.read_entry-id.ensures at c.step.ensures)
