use native.Mathlib.Omega.{arith}
use mathlib.Core.Path.{◌≡◌}
use Prim.Native.Nat.{ℕ, ◌+◌, ◌-◌}
use Rattle.le.proofs.Pastes.{drop_replicate}
use Rattle.format.proofs.read_model.Goals as goal

pub returns : goal.returns
returns c =
    let e : (c.args.at + c.args.n) - c.args.at ≡ c.args.n = omega arith in
    rw (c.copy_from_slice.ensures.after, e, drop_replicate {A = ℕ} c.args.n 512 0)
