use mathlib.Core.Path.{sym}
use lib.Ieee.{binary32}
use Rattle.float.proofs.BitLaws.{finite_bits}
use Rattle.float.proofs.U32Pattern.is_finite.Goals as goal

pub returns : goal.returns
returns c = sym (finite_bits binary32 c.args.self)
