-- A flag as a number.
use mathlib.Core.Path.{◌≡◌, refl}
use mathlib.Core.Bool.{Bool, true, false, cond}
use mir.Val.{bool_byte}

pub bool_number : (b : Bool) → bool_byte b ≡ cond b 1 0
bool_number true = refl
bool_number false = refl
