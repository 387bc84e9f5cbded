use lib.Ieee.{binary64, of_bits}
use Rattle.root.proofs.quick_root_bits.Goals as goal

pub root_bits-requires : goal.root_bits-requires
root_bits-requires c = rw (← c.radicand.ensures) (c.mended.ensures c.radicand.result.value c.in_ok-z.ensures)

pub returns : goal.returns
returns c = (c.root_bits.ensures.root (of_bits binary64 c.args.bits) c.scale_of_normal-x.ensures, c.root_bits.ensures.bound)
