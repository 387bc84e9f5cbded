use native.Mathlib.Omega.{arith}
use Rattle.rank.proofs.Pairs.{length_pairs}
use Rattle.scan.proofs.ScanLaws.{turned_away}
use Rattle.scan.proofs.keep.Goals as goal

pub returns-then-top-key : goal.returns-then-top-key
returns-then-top-key c =
    let k = c.key-key in
    rw (← k.ensures)
    (turned_away c.args.ks.now c.args.rs.now c.requires.count_in_bounds.1 c.args.count k.result c.args.row c.args.top c.requires.count_in_bounds.0 c.requires.heap_from c.requires.count_in_bounds.2
    (omega arith) (c.type_inv.rs 0).fits c.if-top-key.true)

pub bar-t-requires : goal.bar-t-requires
bar-t-requires c =
    let k = c.keep_best-n in
    omega (arith, k.ensures.count, length_pairs c.args.ks.now c.args.rs.now c.requires.count_in_bounds.1, k.auto.ks)
