use native.Mathlib.Omega.{arith}
use mathlib.Core.Path.{◌≡◌}
use Prim.Native.Nat.{◌+◌, ◌-◌, ◌*◌}
use Rattle.segment.specs.Record.{parts_ok}
use Rattle.segment.proofs.parts_hold.Goals as goal

pub returns : goal.returns
unfolding parts_ok
returns c =
    let a = c.args in
    let e : (a.at + 12 + 4 * a.dimensions + a.metadata) - (a.at + 12 + 4 * a.dimensions) ≡ a.metadata = omega arith in
    rw (c.valid.ensures, c.validate_record.ensures, c.u32_at.ensures, c.u64_at.ensures, e)
