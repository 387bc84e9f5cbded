use borrow.Author.Tests.{lt-ltb, le-ltb}
use mir.Facts.{to_z-of_z}
use Rattle.codes.proofs.masked.Goals as goal

pub returns-then-j-k-lt17 : goal.returns-then-j-k-lt17
returns-then-j-k-lt17 c = rw (lt-ltb _ _ c.if-j-k-lt17.true)

pub returns-else-j-k-lt17 : goal.returns-else-j-k-lt17
returns-else-j-k-lt17 c = rw (to_z-of_z c.ranges.x, le-ltb _ _ c.if-j-k-lt17.false)
