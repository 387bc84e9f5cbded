use Rattle.rerank.proofs.Records.{readable, four_records}
use Rattle.rerank.proofs.Original.distances_four.Goals as goal

pub distance_four-requires : goal.distance_four-requires
distance_four-requires c =
    let o = c.args.self.now in
    let m = o.library.manifest.bytes.now in
    let s = o.library.segments.now in
    let h = four_records m s c.args.rs.now c.args.i c.requires.2 in (
      readable m s _ o.as_wide c.coordinates_at-a.ensures h.0,
      readable m s _ o.as_wide c.coordinates_at-b.ensures h.1,
      readable m s _ o.as_wide c.coordinates_at-c.ensures h.2,
      readable m s _ o.as_wide c.coordinates_at-d.ensures h.3,
    )
