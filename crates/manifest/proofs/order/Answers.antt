use native.Mathlib.Omega.{arith}
use mathlib.Core.Path.{ap, ◌∙◌}
use mathlib.Core.Bool.{true}
use mathlib.Core.List.{◌++◌, map}
use lib.Dec.{leb}
use lib.ListN.{length, drop, length-take}
use Rattle.rank.specs.Rows.{passing}
use Rattle.format.specs.Fields.{rows_of}
use Rattle.manifest.specs.Scratch.{key}
use Rattle.rank.proofs.Sort.{sort-front}
use Rattle.manifest.proofs.Keys.{count-keys, sort-keys, length_ordered}
use Rattle.manifest.proofs.order.Goals as goal

pub returns : goal.returns
returns c =
    let m = c.args.m.bytes.now in
    let t = c.args.scratch.now in
    let n = c.args.m.layout.rows in
    let f = c.fill.ensures in
    let a = map (key m) (passing (λ r. true) (rows_of m)) in
    rw (c.sort_numbers.ensures, f, c.args.m.laid_out.rows) (sort-front leb (rows_of m) a (drop (rows_of m) t) (count-keys m (rows_of m)) ∙ ap (λ k. k ++ drop (rows_of m) t) (sort-keys m c.requires.1 c.args.m.laid_out.most))

pub slice_bounds-sort_numbers-end : goal.slice_bounds-sort_numbers-end
slice_bounds-sort_numbers-end c = let e = c.fill.auto.scratch in omega (arith, e, c.requires.0)

pub slice_bounds-sort_numbers-end-2 : goal.slice_bounds-sort_numbers-end-2
slice_bounds-sort_numbers-end-2 c = let e = c.fill.auto.scratch in simp length-take (omega (arith, e, c.requires.0))

pub shape_of-scratch : goal.shape_of-scratch
shape_of-scratch c = ap length (returns c) ∙ length_ordered c.args.m.bytes.now c.args.scratch.now (rw c.args.m.laid_out.rows at c.requires.0)
