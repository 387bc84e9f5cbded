use Rattle.cache_format.proofs.Opens.{head-long}
use Rattle.cache_format.proofs.Identity.check_head.Goals as goal

pub stands_in-requires : goal.stands_in-requires
stands_in-requires c =
    let e = head-long 1 c.args.size c.args.cache.now (rw c.head_holds.ensures at c.if-not-head_holds.false) in rw e c.requires
