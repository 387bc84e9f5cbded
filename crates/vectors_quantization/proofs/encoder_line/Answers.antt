use Prim.Native.Nat.{◌-◌}
use mathlib.Core.Path.{◌≡◌}
use native.Mathlib.Omega.{arith}
use lib.ListN.{length}
use mathlib.Core.Path.{sym, ◌∙◌}
use Rattle.config.specs.declared.Metric.TheVariants.{SquaredL2}
use Rattle.config.specs.Vector.{floats_at}
use Rattle.config.proofs.Coordinates.{valid_parts}
use native.Mathlib.Omega.{arith}
use borrow.Author.Rules.{rules}
use Rattle.vectors_quantization.proofs.encoder_line.Goals as goal

pub encode_row-requires : goal.encode_row-requires
encode_row-requires c =
    let e : length c.args.out.now - 16 ≡ 43 = omega arith in
    record { in_bounds = search rules; at_value = rw e (valid_parts SquaredL2 43 (floats_at 43 c.args.s.now 0) (sym c.validate_record.ensures ∙ c.if-validate_record.true)).1 }
