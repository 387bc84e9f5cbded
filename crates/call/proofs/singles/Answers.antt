use lib.Ieee.{nan, binary32, fits}
use Rattle.config.proofs.Coordinates.{all_by}
use Rattle.call.proofs.singles.Goals as goal

pub returns : goal.returns
returns c = all_by (fits binary32) c.args.query.now nan c.type_inv.query
