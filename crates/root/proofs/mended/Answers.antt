use Rattle.root.proofs.Squares.{mend}
use native.Mathlib.Omega.{arith}
use Rattle.root.proofs.mended.Goals as goal

pub returns : goal.returns
returns c = λ v e. rw (c.from-up.ensures, c.from-down.ensures) (mend v c.args.m.value c.args.z (omega arith) c.requires.0 c.requires.1 e)
