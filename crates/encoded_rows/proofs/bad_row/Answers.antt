use Prim.Native.Nat.{◌≤◌}
use native.Mathlib.Omega.{arith}
use Rattle.format.proofs.First.{reached_turn, one_found, none_found}
use Rattle.entries.proofs.Entries.{entry_keeps}
use Rattle.encoded_rows.proofs.bad_row.Goals as goal

pub record_holds-requires : goal.record_holds-requires
record_holds-requires c =
    let x = c.args.library.now in
    let e = c.records-records.ensures in
    let h = c.loop-row-test.true in
    rw (e.1, e.0) (h, entry_keeps x.manifest.bytes.now c.loop-row.row x.rows (rw x.manifest.laid_out.rows at h))

pub returns-then-not-record_holds : goal.returns-then-not-record_holds
returns-then-not-record_holds c =
    let e = c.records-records.ensures in
    let b = rw (e.0, e.2) at c.record_holds.ensures in
    one_found (rw c.args.library.now.manifest.laid_out.rows at c.loop-row-test.true) (rw b at c.if-not-record_holds.true) c.loop-row.invariant

pub loop-row-preserved : goal.loop-row-preserved
loop-row-preserved c =
    let e = c.records-records.ensures in
    let b = rw (e.0, e.2) at c.record_holds.ensures in
    reached_turn (rw c.args.library.now.manifest.laid_out.rows at c.loop-row-test.true) (rw b at c.if-not-record_holds.false) c.loop-row.invariant

pub returns : goal.returns
returns c =
    let x = c.args.library.now.manifest in
    let end : c.loop-row.row ≤ x.layout.rows = omega arith in
    none_found (rw x.laid_out.rows at c.loop-row-test.false) (rw x.laid_out.rows at end) c.loop-row.invariant
