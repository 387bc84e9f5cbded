use native.Mathlib.Omega.{arith}
use Rattle.root.proofs.Squares.{near_floor, near_next}
use Rattle.root.proofs.Radicand.slow_nearest.Goals as goal

pub returns-then-self-square : goal.returns-then-self-square
returns-then-self-square c =
    near_floor c.args.self.value c.floor_root-m.result (omega arith) c.floor_root-m.ensures.low (omega (arith, c.square.ensures, c.from.ensures))

pub returns-else-self-square : goal.returns-else-self-square
returns-else-self-square c =
    near_next c.args.self.value c.floor_root-m.result (omega (arith, c.square.ensures, c.from.ensures)) c.floor_root-m.ensures.high
