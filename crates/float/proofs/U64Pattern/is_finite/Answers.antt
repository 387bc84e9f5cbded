use mathlib.Core.Path.{sym}
use lib.Ieee.{binary64}
use Rattle.float.proofs.BitLaws.{finite_bits}
use Rattle.float.proofs.U64Pattern.is_finite.Goals as goal

pub returns : goal.returns
returns c = sym (finite_bits binary64 c.args.self)
