use Prim.Native.Nat.{◌+◌}
use lib.ListN.{length}
use borrow.Author.Tests.{le-leb, lt-leb}
use Rattle.config.specs.Limits.{max_segments, max_records}
use Rattle.format.specs.Fields.{length_of_model, generation_of, segments_of, rows_of}
use Rattle.format.specs.Head.{counts_ok}
use Rattle.format.proofs.counts_hold.Goals as goal

pub returns-then-m-model : goal.returns-then-m-model
unfolding counts_ok
returns-then-m-model c =
    rw (lt-leb (65 + length_of_model c.args.m.now) (length c.args.m.now) (rw c.requires.2 at c.if-m-model.true))

pub returns-then-segments-gt-MAX_SEGMENTS : goal.returns-then-segments-gt-MAX_SEGMENTS
unfolding counts_ok segments_of
returns-then-segments-gt-MAX_SEGMENTS c =
    let s = rw (c.count_at-segments.ensures.0, c.requires.2) at c.if-segments-gt-MAX_SEGMENTS.true in
    rw (le-leb (65 + length_of_model c.args.m.now) (length c.args.m.now) (rw c.requires.2 at c.if-m-model.false), lt-leb _ max_segments s)

pub returns-then-rows : goal.returns-then-rows
unfolding counts_ok segments_of rows_of
returns-then-rows c =
    let s = rw (c.count_at-segments.ensures.0, c.requires.2) at c.if-segments-gt-MAX_SEGMENTS.false in
    let r = rw (c.u64_at-rows.ensures, c.requires.2) at c.if-rows.true in
    rw (le-leb (65 + length_of_model c.args.m.now) (length c.args.m.now) (rw c.requires.2 at c.if-m-model.false), le-leb _ max_segments s, lt-leb _ max_records r)

pub returns : goal.returns
unfolding counts_ok generation_of segments_of rows_of
returns c =
    let s = rw (c.count_at-segments.ensures.0, c.requires.2) at c.if-segments-gt-MAX_SEGMENTS.false in
    let r = rw (c.u64_at-rows.ensures, c.requires.2) at c.if-rows.false in
    rw (le-leb (65 + length_of_model c.args.m.now) (length c.args.m.now) (rw c.requires.2 at c.if-m-model.false), le-leb _ max_segments s, le-leb _ max_records r, c.both_or_none.ensures, c.u64_at.ensures, c.u64_at-rows.ensures, c.count_at-segments.ensures.0, c.requires.2)
