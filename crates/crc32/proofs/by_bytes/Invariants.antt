use Rattle.crc32.specs.Crc.{update}
use mathlib.Core.Path.{◌≡◌}
use lib.ListN.{drop}
use Rattle.crc32.proofs.by_bytes.Given as goal

abbrev pub invariant-loop-x : goal.invariant-loop-x
invariant-loop-x l = update l.sum (drop l.x-index l.s) ≡ update l.c l.s
