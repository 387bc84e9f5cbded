use borrow.Author.Tests.{le-ltb, lt-ltb}
use Rattle.format.specs.Fields.{segment_at, record_length, segments_of}
use Rattle.entries.specs.Plan.{entry_ok}
use Rattle.entries.proofs.entry_holds.Goals as goal

pub returns-then-m-segment : goal.returns-then-m-segment
unfolding entry_ok
returns-then-m-segment c =
    let t = rw (c.read_entry-e.ensures, c.args.m.laid_out.segments) at c.if-m-segment.true in
    rw (le-ltb (segment_at c.args.m.bytes.now c.args.row) (segments_of c.args.m.bytes.now) t)

pub returns : goal.returns
unfolding entry_ok record_length
returns c =
    let t = rw (c.read_entry-e.ensures, c.args.m.laid_out.segments) at c.if-m-segment.false in
    rw (lt-ltb (segment_at c.args.m.bytes.now c.args.row) (segments_of c.args.m.bytes.now) t, c.rises.ensures, c.end-end.ensures.0, c.segment_length.ensures, c.read_entry-e.ensures, c.args.m.laid_out.dimensions)
