use mathlib.Core.Path.{sym, ◌∙◌}
use Rattle.rerank.proofs.Records.{readable}
use Rattle.rerank.proofs.Original.measure_one.Goals as goal

pub distance-x-requires : goal.distance-x-requires
distance-x-requires c =
    let o = c.args.self.now in
    let e = c.records.ensures in
    readable o.library.manifest.bytes.now o.library.segments.now c.args.row o.as_wide c.coordinates_at.ensures (sym (rw (e.0, e.2) at c.record_holds.ensures) ∙ c.if-not-record_holds.false)
