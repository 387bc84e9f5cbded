use native.Mathlib.Omega.{arith}
use mathlib.Core.Path.{refl, sym, ◌∙◌}
use lib.ListN.{length, get_or}
use borrow.Author.Tests.{eq-eqb, ne_eqb, eqb-true, eqb-false}
use Rattle.format.specs.Fields.{offset_at, record_length}
use Rattle.manifest.specs.Scratch.{key_row}
use Rattle.manifest.proofs.Walk.{follow_turn, follow_done, covers-none, covers-some}
use Rattle.manifest.proofs.covers.Goals as goal

pub returns-then-is_empty : goal.returns-then-is_empty
returns-then-is_empty c =
    covers-none c.args.m.bytes.now c.args.length c.args.keys.now (eqb-true (length c.args.keys.now) 0 (rw c.is_empty.ensures at c.if-is_empty.true))

pub loop-key-init : goal.loop-key-init
loop-key-init c = record { near = omega arith; so = refl }

pub returns-then-e-at : goal.returns-then-e-at
returns-then-e-at c =
    let L = c.loop-key in
    let m = c.args.m.bytes.now in
    let keys = c.args.keys.now in
    let t = follow_turn m c.args.length keys L.at L.key-index c.loop-key-test.true in
    let e = rw (c.read_entry-e.ensures, c.key_row.ensures) at c.if-e-at.true in
    let some = eqb-false (length keys) 0 (rw c.is_empty.ensures at c.if-is_empty.false) in
    sym (rw (ne_eqb (offset_at m (key_row (get_or keys L.key-index 0))) L.at e) at t) ∙ L.invariant.so ∙ covers-some m c.args.length keys some

pub read_entry-e-requires : goal.read_entry-e-requires
read_entry-e-requires c = rw c.key_row.ensures (c.requires.at c.loop-key.key-index c.loop-key-test.true)

pub loop-key-preserved : goal.loop-key-preserved
unfolding record_length
loop-key-preserved c =
    let L = c.loop-key in
    let m = c.args.m.bytes.now in
    let keys = c.args.keys.now in
    let t = follow_turn m c.args.length keys L.at L.key-index c.loop-key-test.true in
    let e = rw (c.read_entry-e.ensures, c.key_row.ensures) at c.if-e-at.false in
    let u = rw (eq-eqb (offset_at m (key_row (get_or keys L.key-index 0))) L.at e) at t in
    record {
      near = c.end-at.ensures.1;
      so = rw (c.end-at.ensures.0, c.read_entry-e.ensures, c.key_row.ensures, c.args.m.laid_out.dimensions) (sym u) ∙ L.invariant.so;
    }

pub overflow_add-result : goal.overflow_add-result
overflow_add-result c = omega (arith, c.loop-key.invariant.near)

pub returns : goal.returns
returns c =
    let L = c.loop-key in
    let m = c.args.m.bytes.now in
    let keys = c.args.keys.now in
    let some = eqb-false (length keys) 0 (rw c.is_empty.ensures at c.if-is_empty.false) in
    sym (follow_done m c.args.length keys L.at L.key-index c.loop-key-test.false) ∙ L.invariant.so ∙ covers-some m c.args.length keys some
