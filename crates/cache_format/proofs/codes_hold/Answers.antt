use native.Mathlib.Omega.{arith}
use native.Mathlib.Nat.{mul-le-mul}
use Rattle.cache_format.proofs.codes_hold.Goals as goal

pub overflow_mul-result : goal.overflow_mul-result
overflow_mul-result c = let h = mul-le-mul c.requires.0 c.requires.1 in omega (arith, h)
