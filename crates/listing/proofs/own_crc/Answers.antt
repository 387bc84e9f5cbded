use borrow.Author.Rules.{rules}
use Rattle.format.specs.Fields.{stored_crc}
use Rattle.listing.proofs.own_crc.Goals as goal

pub returns : goal.returns
unfolding stored_crc
returns c = search rules
