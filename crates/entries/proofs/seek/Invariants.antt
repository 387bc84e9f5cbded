use lib.Dec.{ltb}
use Rattle.format.specs.Fields.{rows_of, id_at}
use Rattle.entries.specs.Plan.{row_from}
use Rattle.format.proofs.First.{Seeks}
use Rattle.entries.proofs.seek.Given as goal

abbrev pub invariant-loop-row : goal.invariant-loop-row
invariant-loop-row l =
    let m = l.m.bytes.now in Seeks (λ r. ltb (id_at m r) l.id) (rows_of m) l.row (row_from m l.from l.id)
