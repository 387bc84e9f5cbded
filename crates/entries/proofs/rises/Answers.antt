use mathlib.Core.Path.{◌≡◌, sym, ap, ◌∙◌}
use Prim.Native.Nat.{suc, ◌-◌}
use native.Mathlib.Omega.{arith}
use lib.Dec.{ltb}
use Rattle.format.specs.Fields.{id_at}
use Rattle.entries.specs.Plan.{rises}
use Rattle.entries.proofs.rises.Goals as goal

pub returns-then-row-eq0 : goal.returns-then-row-eq0
unfolding rises
returns-then-row-eq0 c = rw c.if-row-eq0.true

pub returns-else-row-eq0 : goal.returns-else-row-eq0
unfolding rises
returns-else-row-eq0 c =
    let a = c.args in
    let ne = c.if-row-eq0.false in
    let e : a.row ≡ suc (a.row - 1) = omega (arith, ne) in
    rw (c.read_entry-else-row-eq0.ensures, c.read_entry.ensures) (ap (λ r. ltb (id_at a.m.bytes.now (a.row - 1)) (id_at a.m.bytes.now r)) e ∙ ap (rises a.m.bytes.now) (sym e))
