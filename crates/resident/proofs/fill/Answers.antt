use native.Mathlib.Omega.{arith}
use mathlib.Core.Path.{◌≡◌, ap, ◌∙◌}
use mathlib.Core.List.{[], ◌∷◌}
use Prim.Native.Nat.{◌+◌, ◌*◌, ◌≤◌, ◌<◌}
use lib.ListN.{length}
use Rattle.quantization.specs.Encoder.{midpoints_of}
use Rattle.quantization.specs.View.{View}
use Rattle.format.specs.Fields.{dimensions_of, rows_of}
use Rattle.format.proofs.First.{each_passes}
use Rattle.entries.proofs.Entries.{entry_keeps}
use Rattle.segment.specs.Record.{record_ok}
use Rattle.encoded_rows.specs.Rows.{row_of}
use Rattle.segment.proofs.RecordLaws.{good}
use Rattle.encoded_rows.proofs.Written.{own_codes}
use Rattle.le.proofs.Joined.{store_none, part_turn, element_turn}
use Rattle.resident.proofs.Rows.{room, own_part, same_row, asks, norm_stored}
use Rattle.resident.proofs.fill.Goals as goal

pub loop-row-init : goal.loop-row-init
loop-row-init c =
    let a = c.args in
    let g = a.encoder.now.levels in
    let m = a.library.now.manifest.bytes.now in
    let s = a.library.now.segments.now in
    record {
      codes = store_none (λ r. (row_of g (midpoints_of g) m s r).codes) a.codes.now 0;
      scales = store_none (λ r. (row_of g (midpoints_of g) m s r).scale ∷ []) a.scales.now 0;
      norms = store_none (λ r. (row_of g (midpoints_of g) m s r).norm ∷ []) a.norms.now 0;
    }

pub record_at-from-requires : goal.record_at-from-requires
record_at-from-requires c =
    let l = c.args.library.now in
    let e = c.records-records.ensures in
    let h = rw l.manifest.laid_out.rows at c.loop-row-test.true in
    (rw e.1 c.loop-row-test.true, rw e.0 (entry_keeps l.manifest.bytes.now c.loop-row.row l.rows h))

pub overflow_add-from : goal.overflow_add-from
overflow_add-from c =
    let l = c.args.library.now in
    let m = l.manifest.bytes.now in
    let s = l.segments.now in
    let h = rw l.manifest.laid_out.rows at c.loop-row-test.true in
    let g = good m s c.loop-row.row (each_passes (record_ok m s) (rows_of m) c.loop-row.row c.requires.good h) in
    let e = rw c.records-records.ensures.0 at c.record_at-from.ensures in
    omega (arith, g.inside, e)

pub encode_resident-encoded-requires : goal.encode_resident-encoded-requires
encode_resident-encoded-requires c =
    let L = c.loop-row in
    let l = c.args.library.now in
    let m = l.manifest.bytes.now in
    let s = l.segments.now in
    let h = rw l.manifest.laid_out.rows at c.loop-row-test.true in
    let w : rows_of m * dimensions_of m ≤ length L.codes = rw L.auto.codes c.requires.room.0 in
    let e = rw c.records-records.ensures.0 at c.record_at-from.ensures in
    let g = good m s L.row (each_passes (record_ok m s) (rows_of m) L.row c.requires.good h) in
    let q = asks m s L.row (own_part l.manifest.laid_out L.codes L.row c.loop-row-test.true w) l.manifest.laid_out.high e g in
    record { out_len_bound = q.0; at_value = q.1 }

pub loop-row-preserved : goal.loop-row-preserved
loop-row-preserved c =
    let a = c.args in
    let L = c.loop-row in
    let l = a.library.now in
    let p = l.manifest.laid_out in
    let k = l.manifest.layout.dimensions in
    let g = a.encoder.now.levels in
    let m = l.manifest.bytes.now in
    let s = l.segments.now in
    let h : L.row < rows_of m = rw p.rows at c.loop-row-test.true in
    let w : rows_of m * dimensions_of m ≤ length L.codes = rw L.auto.codes c.requires.room.0 in
    let f = room p (length a.codes.now) L.row c.loop-row-test.true c.requires.room.0 in
    let x : L.row * k ≡ L.row * dimensions_of m = ap (λ y. L.row * y) p.dimensions in
    let e = rw c.records-records.ensures.0 at c.record_at-from.ensures in
    let E = c.encode_resident-encoded.ensures in
    let r = same_row g (midpoints_of g) m s L.row _ _ (own_part p L.codes L.row c.loop-row-test.true w) (ap (λ y. y + 12) e) in
    record {
      codes = part_turn (λ i. (row_of g (midpoints_of g) m s i).codes) (dimensions_of m) (own_codes g (midpoints_of g) m s) a.codes.now 0 L.row L.invariant.codes
          (E.0 ∙ ap (λ (v : View). v.codes) r) (omega (arith, x)) (ap (λ y. L.row * k + y) p.dimensions) (omega (arith, f.0));
      scales = element_turn (λ i. (row_of g (midpoints_of g) m s i).scale) a.scales.now L.row L.invariant.scales (E.1 ∙ ap (λ (v : View). v.scale) r) (omega (arith, h, c.requires.room.1));
      norms = element_turn (λ i. (row_of g (midpoints_of g) m s i).norm) a.norms.now L.row L.invariant.norms
          (norm_stored a.encoder.now.counted m s L.row p.high (E.2 ∙ ap (λ (v : View). v.norm) r)) (omega (arith, h, c.requires.room.2));
    }
