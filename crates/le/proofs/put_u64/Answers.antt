use Rattle.le.proofs.LeLaws.{part_bytes}
use Rattle.le.proofs.put_u64.Goals as goal

pub returns : goal.returns
returns c = part_bytes c.args.s.now c.args.at 8 c.args.v c.to_le_bytes.ensures c.copy_from_slice.ensures.after
