use mathlib.Core.Path.{sym, ◌∙◌}
use Rattle.crc32.proofs.Linear.{crc_turn, crc_done}
use Rattle.crc32.proofs.by_bytes.Goals as goal

pub loop-x-preserved : goal.loop-x-preserved
loop-x-preserved c = let l = c.loop-x in cc (crc_turn c.args.s.now l.sum l.x-index c.loop-x-test.true)

pub returns : goal.returns
returns c = let l = c.loop-x in sym (crc_done c.args.s.now l.sum l.x-index c.loop-x-test.false) ∙ l.invariant
