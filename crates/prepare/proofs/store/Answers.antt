use mathlib.Core.Path.{ap, ◌∙◌}
use Prim.Native.Nat.{◌+◌}
use lib.ListN.{length}
use Rattle.prepare.proofs.Stored.{stores, stored}
use Rattle.prepare.proofs.store.Goals as goal

pub returns : goal.returns
returns c =
    let a = c.args in
    let l = a.library.now in
    let m = l.manifest.bytes.now in
    let s = l.segments.now in
    let i = a.identity in
    let at = 16 + c.len-at.result in
    let e = rw c.requires.same at (ap (λ n. 16 + n) c.len-at.ensures) in
    let p = stores m s i.location.platform.now i.location.root.now at a.size (length a.cache.now) e c.requires.size.0 l.manifest.laid_out.long c.requires.size.1 in
    c.put_crc.ensures ∙ rw (c.store_rows.ensures, c.put_head.ensures, c.requires.same) (stored m s i.location.platform.now i.location.root.now a.cache.now at a.size p)
