use mathlib.Core.Path.{refl}
use Prim.Native.Nat.{◌≤◌}
use native.Mathlib.Omega.{arith}
use Rattle.format.proofs.First.{reached_turn, one_found, none_found}
use Rattle.entries.proofs.bad_entry_from.Goals as goal

pub loop-row-init : goal.loop-row-init
loop-row-init c = record { so = refl }

pub returns-then-not-entry_holds : goal.returns-then-not-entry_holds
returns-then-not-entry_holds c =
    one_found (rw c.args.m.laid_out.rows at c.loop-row-test.true) (rw c.entry_holds.ensures at c.if-not-entry_holds.true) c.loop-row.invariant

pub loop-row-preserved : goal.loop-row-preserved
loop-row-preserved c =
    reached_turn (rw c.args.m.laid_out.rows at c.loop-row-test.true) (rw c.entry_holds.ensures at c.if-not-entry_holds.false) c.loop-row.invariant

pub returns : goal.returns
returns c =
    let end : c.loop-row.row ≤ c.args.m.layout.rows = omega arith in
    none_found (rw c.args.m.laid_out.rows at c.loop-row-test.false) (rw c.args.m.laid_out.rows at end) c.loop-row.invariant
