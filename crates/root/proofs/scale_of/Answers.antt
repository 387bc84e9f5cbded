use Rattle.root.proofs.Scales.{scale_small}
use native.Mathlib.Omega.{arith}
use Rattle.root.proofs.scale_of.Goals as goal

pub returns-then-bits-lt4503599627370496 : goal.returns-then-bits-lt4503599627370496
returns-then-bits-lt4503599627370496 c =
    let z = c.raised.result in
    scale_small c.args.bits z.digits.value z.exponent (omega arith) c.raised.ensures z.digits.full z.digits.short z.low z.high
