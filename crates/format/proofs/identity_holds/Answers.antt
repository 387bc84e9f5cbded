use native.Mathlib.Omega.{arith}
use Prim.Native.Nat.{◌+◌, ◌-◌}
use mathlib.Core.Path.{◌≡◌, ap, ◌∙◌}
use mathlib.Core.Bool.{◌&&◌}
use lib.ListN.{take, drop}
use Rattle.config.specs.Space.{valid_config, valid_space}
use Rattle.format.specs.Fields.{dimensions_of, m_of, ef_of, model_of}
use Rattle.format.specs.Head.{identity_ok}
use Rattle.format.proofs.identity_holds.Goals as goal

pub returns : goal.returns
unfolding identity_ok model_of
returns c =
    let e : (49 + c.args.model) - 49 ≡ c.args.model = omega arith in
    rw (c.validate_space.ensures, c.validate.ensures, c.read_config-config.ensures)
    (ap (λ n. valid_config (dimensions_of c.args.m.now) (m_of c.args.m.now) (ef_of c.args.m.now) && valid_space (take n (drop 49 c.args.m.now)) (dimensions_of c.args.m.now)) (e ∙ c.requires.2))
