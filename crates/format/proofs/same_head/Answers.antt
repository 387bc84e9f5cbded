use mathlib.Core.Path.{sym}
use borrow.Author.Tests.{eq-eqb, ne_eqb}
use Rattle.config.proofs.Numbers.{some_number}
use Rattle.format.specs.Head.{head_number}
use Rattle.format.specs.Same.{is_same_head}
use Rattle.format.proofs.same_head.Goals as goal

pub returns-in-Ok : goal.returns-in-Ok
unfolding is_same_head
returns-in-Ok c =
    rw (c.lengths_hold.ensures, c.same_fields.ensures, c.head.ensures, c.in-Ok.ensures.bytes, eq-eqb (head_number c.args.m.now) 0 (sym c.in-Ok.ensures.told))

pub returns-in-Err : goal.returns-in-Err
unfolding is_same_head
returns-in-Err c = rw (← c.in-Err.ensures.told, ne_eqb _ 0 (some_number c.in-Err.field-0))
