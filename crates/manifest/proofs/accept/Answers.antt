use native.Mathlib.Omega.{arith}
use mathlib.Core.Path.{◌≡◌, sym, ap, ◌∙◌}
use mathlib.Core.Bool.{true, false}
use lib.ListN.{length, replicate, length-take}
use borrow.Author.Tests.{eq-eqb, ne_eqb}
use Rattle.std.proofs.lemmas.Result.{err_from_is_err_and}
use Rattle.config.proofs.Numbers.{some_number}
use Rattle.entries.specs.Plan.{plan_number}
use Rattle.manifest.specs.Tiling.{tiled}
use Rattle.manifest.specs.Check.{manifest_number, scratch_held}
use Rattle.manifest.proofs.Passed.{planned, filled}
use Rattle.manifest.proofs.Keys.{take_ordered}
use Rattle.manifest.proofs.accept.Goals as goal

pub returns-in_err-manifest-clause-told : goal.returns-in_err-manifest-clause-told
unfolding manifest_number
returns-in_err-manifest-clause-told c =
    let p = err_from_is_err_and c.from_residual.result c.from_residual.ensures.1 in
    let e = c.in_err-manifest.ensures.told in
    rw (p.1, p.2, e, ne_eqb _ 0 (rw e at (some_number c.in_err-manifest.field-0.0)))

pub returns-in_err-manifest-clause-scratch_after : goal.returns-in_err-manifest-clause-scratch_after
unfolding scratch_held
returns-in_err-manifest-clause-scratch_after c =
    let e = c.in_err-manifest.ensures.told in
    rw (ne_eqb _ 0 (rw e at (some_number c.in_err-manifest.field-0.0)))

pub order-requires : goal.order-requires
order-requires c =
    let k = c.in_ok-manifest in
    let p = planned c.args.m.now c.args.expected (length c.args.scratch.now) (sym k.ensures.told) in
    (rw (k.manifest.laid_out.rows, k.ensures.bytes) p.roomy, rw k.ensures.bytes p.rows)

pub slice_bounds-tiles-end : goal.slice_bounds-tiles-end
slice_bounds-tiles-end c =
    let k = c.in_ok-manifest in
    let p = planned c.args.m.now c.args.expected (length c.args.scratch.now) (sym k.ensures.told) in
    rw (c.order.auto.scratch, k.manifest.laid_out.rows, k.ensures.bytes) p.roomy

pub slice_bounds-tiles-end-2 : goal.slice_bounds-tiles-end-2
slice_bounds-tiles-end-2 c =
    let k = c.in_ok-manifest in
    let p = planned c.args.m.now c.args.expected (length c.args.scratch.now) (sym k.ensures.told) in
    let r = rw k.ensures.bytes at k.manifest.laid_out.rows in
    let e = c.order.auto.scratch in
    simp length-take (omega (arith, e, p.roomy, r))

pub tiles-requires : goal.tiles-requires
tiles-requires c =
    let k = c.in_ok-manifest in
    let p = planned c.args.m.now c.args.expected (length c.args.scratch.now) (sym k.ensures.told) in
    (rw k.ensures.bytes p.rows, rw (c.order.ensures, k.manifest.laid_out.rows) (take_ordered k.manifest.bytes.now c.args.scratch.now))

pub returns-then-tiles-clause-told : goal.returns-then-tiles-clause-told
unfolding manifest_number
returns-then-tiles-clause-told c =
    let k = c.in_ok-manifest in
    let t : tiled c.args.m.now ≡ true = rw (c.tiles.ensures, k.ensures.bytes) at c.if-tiles.true in
    rw (eq-eqb (plan_number c.args.m.now c.args.expected (length c.args.scratch.now)) 0 (sym k.ensures.told), t)

pub returns-then-tiles-clause-scratch_after : goal.returns-then-tiles-clause-scratch_after
unfolding scratch_held
returns-then-tiles-clause-scratch_after c =
    let k = c.in_ok-manifest in
    let t : tiled c.args.m.now ≡ true = rw (c.tiles.ensures, k.ensures.bytes) at c.if-tiles.true in
    rw (eq-eqb (plan_number c.args.m.now c.args.expected (length c.args.scratch.now)) 0 (sym k.ensures.told), t) (rw k.ensures.bytes at c.order.ensures)

pub returns-clause-told : goal.returns-clause-told
unfolding manifest_number
returns-clause-told c =
    let k = c.in_ok-manifest in
    let t : tiled c.args.m.now ≡ false = rw (c.tiles.ensures, k.ensures.bytes) at c.if-tiles.false in
    rw (eq-eqb (plan_number c.args.m.now c.args.expected (length c.args.scratch.now)) 0 (sym k.ensures.told), t)

pub returns-clause-scratch_after : goal.returns-clause-scratch_after
unfolding scratch_held
returns-clause-scratch_after c =
    let k = c.in_ok-manifest in
    let t : tiled c.args.m.now ≡ false = rw (c.tiles.ensures, k.ensures.bytes) at c.if-tiles.false in
    rw (eq-eqb (plan_number c.args.m.now c.args.expected (length c.args.scratch.now)) 0 (sym k.ensures.told), t)
    (c.clear.ensures ∙ ap (λ n. replicate n 0) c.order.auto.scratch)

pub returns-then-tiles-clause-filled : goal.returns-then-tiles-clause-filled
returns-then-tiles-clause-filled c =
    let k = c.in_ok-manifest in
    rw (k.ensures.bytes, returns-then-tiles-clause-scratch_after c) (filled c.args.m.now c.args.expected c.args.scratch.now (sym (returns-then-tiles-clause-told c)))
