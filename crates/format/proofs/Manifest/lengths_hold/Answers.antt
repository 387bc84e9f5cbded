use Rattle.format.specs.Head.{lengths_ok}
use Rattle.format.proofs.First.{reached_turn, one_bad, none_bad}
use Rattle.format.proofs.Manifest.lengths_hold.Goals as goal

pub returns-then-not-length_holds : goal.returns-then-not-length_holds
unfolding lengths_ok
returns-then-not-length_holds c =
    one_bad (rw c.args.self.laid_out.segments at c.loop-n-test.true) (rw c.length_holds.ensures at c.if-not-length_holds.true) c.loop-n.invariant

pub loop-n-preserved : goal.loop-n-preserved
loop-n-preserved c =
    reached_turn (rw c.args.self.laid_out.segments at c.loop-n-test.true) (rw c.length_holds.ensures at c.if-not-length_holds.false) c.loop-n.invariant

pub returns : goal.returns
unfolding lengths_ok
returns c =
    none_bad (rw c.args.self.laid_out.segments at c.loop-n-test.false) (rw c.args.self.laid_out.segments at c.loop-n.auto.n-end) c.loop-n.invariant
