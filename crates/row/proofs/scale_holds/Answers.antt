use lib.Ieee.{of_bits}
use Rattle.float.proofs.Patterns.{finite_above}
use Rattle.row.proofs.scale_holds.Goals as goal

pub returns-then-scale : goal.returns-then-scale
unfolding of_bits
returns-then-scale c = finite_above c.args.scale (rw c.well_formed.0.1 tt) c.if-scale.true
