use mathlib.Core.Path.{refl}
use borrow.Author.Tests.{lt-ltb, le-ltb}
use Prim.Native.Nat.{◌≤◌}
use native.Mathlib.Omega.{arith}
use Rattle.format.proofs.First.{reached_turn, one_found, none_found}
use Rattle.entries.proofs.seek.Goals as goal

pub loop-row-init : goal.loop-row-init
loop-row-init c = record { so = refl }

pub returns-then-id-read_entry : goal.returns-then-id-read_entry
returns-then-id-read_entry c =
    one_found (rw c.args.m.laid_out.rows at c.loop-row-test.true) (le-ltb _ _ (rw c.read_entry.ensures at c.if-id-read_entry.true)) c.loop-row.invariant

pub loop-row-preserved : goal.loop-row-preserved
loop-row-preserved c =
    reached_turn (rw c.args.m.laid_out.rows at c.loop-row-test.true) (lt-ltb _ _ (rw c.read_entry.ensures at c.if-id-read_entry.false)) c.loop-row.invariant

pub returns : goal.returns
returns c =
    let end : c.loop-row.row ≤ c.args.m.layout.rows = omega arith in
    none_found (rw c.args.m.laid_out.rows at c.loop-row-test.false) (rw c.args.m.laid_out.rows at end) c.loop-row.invariant
