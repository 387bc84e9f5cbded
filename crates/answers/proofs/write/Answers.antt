use native.Mathlib.Omega.{arith}
use Rattle.answers.proofs.Places.{written_turn, written_end}
use Rattle.answers.proofs.write.Goals as goal

pub loop-i-preserved : goal.loop-i-preserved
loop-i-preserved c =
    let a = c.args in
    let I = c.loop-i.invariant in
    (written_turn a.library.now.manifest.bytes.now a.keys.now a.listed.now c.requires.listed.0 c.requires.room I.0 c.loop-i-test.true c.place_of-p.ensures, I.1)

pub returns-clause-fact : goal.returns-clause-fact
returns-clause-fact c =
    let a = c.args in
    written_end a.library.now.manifest.bytes.now a.keys.now a.listed.now c.requires.listed.0 c.requires.room c.loop-i.invariant.0
    (omega (arith, c.loop-i-test.false, c.loop-i.auto.i-end))
