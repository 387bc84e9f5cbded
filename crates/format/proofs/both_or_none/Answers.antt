use borrow.Author.Tests.{eq-eqb, ne_eqb}
use Rattle.format.proofs.both_or_none.Goals as goal

pub returns-then-rows-eq0 : goal.returns-then-rows-eq0
returns-then-rows-eq0 c = rw (eq-eqb c.args.rows 0 c.if-rows-eq0.true)

pub returns : goal.returns
returns c = rw (ne_eqb c.args.rows 0 c.if-rows-eq0.false)
