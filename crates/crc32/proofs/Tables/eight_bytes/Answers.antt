use mathlib.Core.Path.{ap₂, ◌∙◌}
use lib.Bits.{bit_xor}
use Rattle.crc32.proofs.Words.{halves}
use Rattle.crc32.proofs.Tables.eight_bytes.Goals as goal

pub returns : goal.returns
returns c = ap₂ bit_xor c.four.ensures c.four-2.ensures ∙ halves c.args.a c.args.b c.ranges.a.fits
