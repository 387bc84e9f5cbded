use mathlib.Core.Path.{◌≡◌, ap, sym, ◌∙◌}
use Prim.Native.Nat.{◌/◌}
use native.Mathlib.Nat.{zero-add}
use native.Mathlib.Omega.{arith}
use lib.Ieee.{nan, binary32, of_bits}
use lib.ListN.{length, set}
use lib.Seq.{take-length}
use Rattle.le.proofs.Pastes.{copy_turn, paste-first}
use Rattle.config.proofs.Vectors.{length_floats}
use Rattle.config.proofs.Coordinates.{floats_at_lem, in_floats}
use Rattle.listing_input.specs.Parts.{query_of}
use Rattle.listing_input.proofs.read_query.Goals as goal

pub loop-i-preserved : goal.loop-i-preserved
unfolding query_of
loop-i-preserved c =
    let L = c.loop-i in
    let q = c.args.query.now in
    let n = length q / 4 in
    let h = c.loop-i-test.true in
    ap (λ w. set w L.i c.value.result) L.invariant
    ∙ copy_turn (query_of q) c.args.out.now L.i nan (in_floats n q 0 h) (omega (arith, c.requires, h))
    (c.value.ensures ∙ ap (of_bits binary32) c.u32_at.ensures ∙ sym (rw zero-add at (floats_at_lem n q 0 L.i h)))

pub returns : goal.returns
unfolding query_of
returns c =
    let L = c.loop-i in
    let q = c.args.query.now in
    let e : L.i ≡ length (query_of q) = omega (arith, c.loop-i-test.false, length_floats (length q / 4) q 0) in
    L.invariant ∙ rw (e, take-length (query_of q)) (sym (paste-first c.args.out.now (query_of q)))
