use Rattle.root.proofs.SquareRoot.{of_root}
use Rattle.root.proofs.sqrt.Goals as goal

pub returns : goal.returns
returns c = of_root c.args.x c.general_sqrt.result c.well_formed.0.1 c.general_sqrt.type_inv c.general_sqrt.ensures
