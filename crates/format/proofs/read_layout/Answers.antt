use native.Mathlib.Omega.{arith}
use Rattle.format.specs.Fields.{dimensions_of, length_of_model, segments_of, rows_of, table_at, entries_at}
use Rattle.format.proofs.Heads.{bounds}
use Rattle.format.proofs.read_layout.Goals as goal

pub returns : goal.returns
unfolding dimensions_of length_of_model segments_of rows_of table_at entries_at
returns c =
    let h = bounds c.args.m.now c.requires in
    let e = h.end in
    record {
      dimensions = c.count_at.ensures.0;
      segments = rw c.count_at-model.ensures.0 at c.count_at-segments.ensures.0;
      rows = rw c.count_at-model.ensures.0 at c.u64_at.ensures;
      table = rw c.count_at-model.ensures.0;
      entries = rw c.count_at-model.ensures.0 (rw (rw c.count_at-model.ensures.0 at c.count_at-segments.ensures.0));
      end = omega (arith, e);
      long = h.long;
      short = h.short;
      low = h.low;
      high = h.high;
      few = h.few;
      most = h.most;
    }
