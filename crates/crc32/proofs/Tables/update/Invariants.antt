-- The bytes that are left, from the sum so far, come to the sum of all.
use Rattle.crc32.specs.Crc.{update}
use Prim.Native.Nat.{◌*◌}
use mathlib.Core.Path.{◌≡◌}
use lib.ListN.{drop}
use Rattle.crc32.proofs.Tables.update.Given as goal

abbrev pub invariant-loop-w : goal.invariant-loop-w
invariant-loop-w l = update l.sum (drop (8 * l.w-index) l.s) ≡ update l.c l.s
