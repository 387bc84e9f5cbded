use Rattle.crc32.specs.Crc.{crc32}
use Rattle.crc32.proofs.Tables.crc32.Goals as goal

pub returns : goal.returns
unfolding crc32
returns c = cc
