use Rattle.format.specs.Fields.{stored_crc}
use Rattle.entries.specs.Plan.{crc_ok}
use Rattle.entries.proofs.crc_holds.Goals as goal

pub returns : goal.returns
unfolding crc_ok stored_crc
returns c = rw (c.ends_in_crc.ensures, c.u32_at.ensures)
