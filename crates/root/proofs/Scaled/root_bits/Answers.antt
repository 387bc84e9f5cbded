use native.Mathlib.Omega.{arith}
use Rattle.root.proofs.Scales.{root_digits, rooted}
use Rattle.root.proofs.Scaled.root_bits.Goals as goal

pub overflow_add-result : goal.overflow_add-result
overflow_add-result c = let z = c.args.self in omega (arith, root_digits z.digits.value z.exponent c.args.m z.digits.full z.digits.short c.requires)

pub returns-clause-root : goal.returns-clause-root
returns-clause-root c = λ x s. rooted x c.args.self.digits.value c.args.self.exponent c.args.m s c.requires

pub returns-clause-bound : goal.returns-clause-bound
returns-clause-bound c = let z = c.args.self in omega (arith, root_digits z.digits.value z.exponent c.args.m z.digits.full z.digits.short c.requires)
