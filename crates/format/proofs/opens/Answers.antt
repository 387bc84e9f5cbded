use native.Mathlib.Omega.{arith}
use lib.ListN.{length}
use Rattle.config.specs.Limits.{max_manifest_bytes}
use Rattle.le.specs.Le.{le}
use Rattle.format.specs.Head.{opens_ok}
use Rattle.format.proofs.Heads.{in_range}
use Rattle.format.proofs.opens.Goals as goal

pub returns-then-span : goal.returns-then-span
unfolding opens_ok le
returns-then-span c = rw (← c.span.ensures, c.if-span.true, c.u64_at.ensures)

pub returns : goal.returns
unfolding opens_ok
returns c = rw (← c.span.ensures, c.if-span.false)

pub u64_at-requires : goal.u64_at-requires
u64_at-requires c =
    let h = in_range 66 max_manifest_bytes (length c.args.m.now) (rw c.span.ensures at c.if-span.true) in omega (arith, h.0)
