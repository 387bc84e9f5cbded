-- The root at numbers, computed.
use mathlib.Core.Path.{◌≡◌, refl}
use mathlib.Core.Bool.{true, false}
use lib.IntN.{pos, negsuc}
use lib.Ieee.{nan, fin}
use Rattle.root.specs.SquareRoot.{sqrt_of}

root_127 : sqrt_of (fin false 16129 (pos 0)) ≡ fin false 127 (pos 0)
unfolding sqrt_of
root_127 = refl

root_2 : sqrt_of (fin false 1 (pos 1)) ≡ fin false 6369051672525773 (negsuc 51)
unfolding sqrt_of
root_2 = refl

-- of the smallest value, 2 ^ -1074
root-least : sqrt_of (fin false 1 (negsuc 1073)) ≡ fin false 1 (negsuc 536)
unfolding sqrt_of
root-least = refl

root_minus_zero : sqrt_of (fin true 0 (pos 0)) ≡ fin true 0 (pos 0)
unfolding sqrt_of
root_minus_zero = refl

root_minus_one : sqrt_of (fin true 1 (pos 0)) ≡ nan
unfolding sqrt_of
root_minus_one = refl
