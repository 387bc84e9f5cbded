use mathlib.Core.Path.{sym}
use borrow.Author.Tests.{eq-eqb}
use Rattle.format.specs.Fields.{rows_of}
use Rattle.manifest.proofs.Parts.{all-keys}
use Rattle.segment.proofs.Found.{nothing_found}
use Rattle.encoded_rows.specs.Rows.{lowest_bad}
use Rattle.encoded_rows.proofs.Ordered.{ordered_good}
use Rattle.encoded_rows.proofs.lowest_bad.Goals as goal

pub bad_record-requires : goal.bad_record-requires
bad_record-requires c =
    let x = c.args.library.now in
    let p = x.manifest.laid_out in
    rw p.rows (all-keys x.manifest.bytes.now x.rows p.most c.args.keys.now c.requires).1

pub returns-in_err-bad_record : goal.returns-in_err-bad_record
returns-in_err-bad_record c =
    let x = c.args.library.now in
    let m = x.manifest.bytes.now in
    let s = x.segments.now in
    let e = nothing_found c.in_err-bad_record.ensures in
    let g = ordered_good m s c.args.keys.now x.rows x.manifest.laid_out.most c.requires e in
    rw c.from_residual.ensures (rw (eq-eqb (lowest_bad m s) (rows_of m) (sym g)))
