use native.Mathlib.Omega.{arith}
use Rattle.crc32.proofs.Words.{first_long, first_look}
use Rattle.crc32.proofs.eight_steps.Goals as goal

pub bounds-t-c : goal.bounds-t-c
bounds-t-c c = omega (arith, first_long c.args.t.now c.requires)

pub returns : goal.returns
returns c = first_look c.args.t.now c.args.c c.requires
