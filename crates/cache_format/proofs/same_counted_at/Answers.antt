use native.Mathlib.Omega.{arith}
use lib.ListN.{drop, length-drop}
use lib.Seq.{drop-drop}
use Rattle.le.proofs.LeLaws.{all-bytes, drop_bytes}
use Rattle.cache_format.proofs.Parts.{same-counted}
use Rattle.cache_format.proofs.same_counted_at.Goals as goal

pub returns : goal.returns
returns c =
    let cache = c.args.cache.now in
    let at = c.args.at in
    let l = length-drop at cache in
    rw (same-counted (drop at cache) c.args.s.now (drop_bytes at cache (all-bytes cache (λ k. (c.type_inv.cache k).fits))) (omega arith) c.requires.1, drop-drop 4 at cache, c.same_bytes_at.ensures, c.u32_at.ensures)
