use native.Mathlib.Omega.{arith}
use Prim.Native.Nat.{◌≤◌}
use lib.ListN.{length}
use Rattle.cache_format.specs.Cache.{identity, cache_version, cache_between}
use Rattle.cache_format.proofs.Parts.{length_identity, magic-bytes, head_stored}
use Rattle.cache_format.proofs.Identity.put_head.Goals as goal

pub returns : goal.returns
returns c =
    let a = c.args.self in
    let m = a.manifest.now in
    let l : 12 ≤ length m = omega (arith, a.long) in
    let e = length_identity a.location.platform.now a.location.root.now m l in
    let i = identity a.location.platform.now a.location.root.now m in
    rw (c.put_rest.ensures, c.put_u64.ensures, magic-bytes) (head_stored c.args.cache.now cache_version i cache_between (omega (arith, e, c.requires)))
