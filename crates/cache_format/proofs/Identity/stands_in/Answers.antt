use native.Mathlib.Omega.{arith}
use Prim.Native.Nat.{◌≤◌}
use lib.ListN.{length}
use Rattle.cache_format.specs.Open.{same_identity}
use Rattle.cache_format.proofs.Parts.{length_inner, length_identity, same_parts}
use Rattle.cache_format.proofs.Identity.stands_in.Goals as goal

pub returns : goal.returns
unfolding same_identity
returns c =
    let a = c.args.self in
    let p = a.location.platform.now in
    let r = a.location.root.now in
    let m = a.manifest.now in
    let l : 12 ≤ length m = omega (arith, a.long) in
    rw (
      length_identity p r m l,
      same_parts p r m c.args.cache.now l c.requires,
      c.same_bytes_at.ensures,
      c.same_counted_at-2.ensures,
      c.same_counted_at.ensures,
      c.u32_at.ensures,
      c.len.ensures,
      c.root_at-root_at.ensures,
      c.manifest_at.ensures,
      c.inner.ensures,
      length_inner m l,
    )
