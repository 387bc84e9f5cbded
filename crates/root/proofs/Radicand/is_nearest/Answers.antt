use Rattle.root.proofs.Squares.{near_tested}
use Rattle.root.proofs.Radicand.is_nearest.Goals as goal

pub returns : goal.returns
returns c = rw c.from-m.ensures (near_tested _ _ _ c.square-q.ensures)
