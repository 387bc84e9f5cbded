use borrow.Author.Tests.{lt-leb, le-leb}
use lib.ListN.{length}
use Rattle.config.specs.Space.{valid_space}
use Rattle.config.proofs.validate_space.Goals as goal

pub returns-then-n-gt512 : goal.returns-then-n-gt512
unfolding valid_space
returns-then-n-gt512 c = rw (lt-leb (length c.args.model.now) 512 c.if-n-gt512.true)

pub returns : goal.returns
unfolding valid_space
returns c =
    rw (c.validate_dimensions.ensures, c.valid.ensures, c.no_zero.ensures, le-leb (length c.args.model.now) 512 c.if-n-gt512.false)
