use Rattle.config.proofs.Coordinates.{all-at}
use Rattle.std.proofs.Common.{not, get_or}
use lib.Ieee.{nan, binary64, fits, is_nan}
use lib.Ieee.Fits.{and_i, fits_widens}
use lib.Ieee.Scale.{finite}
use Rattle.float.proofs.BitLaws.{finite_number}
use Rattle.math.proofs.RefSliceF32Coordinates.at.Goals as goal

pub float_to_float-result : goal.float_to_float-result
float_to_float-result c =
    let v = c.args.self.now.now in
    let i = c.args.i in
    let x = get_or v i nan in
    and_i (fits binary64 x) (not (is_nan x)) (fits_widens x c.row_known-1.given) (finite_number x (all-at finite v i nan c.requires.can c.requires.in_bounds))
