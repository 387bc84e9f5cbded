use mathlib.Core.Path.{refl}
use Rattle.crc32.specs.Crc.{steps, step}
use Rattle.crc32.specs.Tables.{entries}
use Rattle.crc32.proofs.Table.new.Goals as goal

pub invariant_of-result : goal.invariant_of-result
unfolding entries steps step
invariant_of-result c = record { is_entries = refl }
