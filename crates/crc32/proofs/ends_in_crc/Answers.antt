use Prim.Native.Nat.{◌≤◌}
use lib.ListN.{length}
use native.Mathlib.Omega.{arith}
use borrow.Author.Tests.{le-leb, lt-leb}
use Rattle.crc32.specs.Crc.{ends_in_crc}
use Rattle.crc32.proofs.ends_in_crc.Goals as goal

pub returns-in_default : goal.returns-in_default
unfolding ends_in_crc
returns-in_default c = rw (lt-leb 4 _ c.in_default.ensures.cases)

pub returns : goal.returns
unfolding ends_in_crc
returns c =
    let e = c.in-Some.ensures.cases in
    let h : 4 ≤ length c.args.s.now = omega (arith, e) in
    rw (le-leb 4 (length c.args.s.now) h, c.crc32.ensures, c.u32_at.ensures, e.0, e.1)
