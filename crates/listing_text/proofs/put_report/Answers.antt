use native.Mathlib.Omega.{arith}
use lib.ListN.{length-append}
use Rattle.text.proofs.Puts.{wrote_then}
use Rattle.listing_text.specs.Listing.{report_line}
use Rattle.listing_text.proofs.Lines.{is_bit}
use Rattle.listing_text.proofs.put_report.Goals as goal

pub put_field-requires : goal.put_field-requires
unfolding report_line
put_field-requires c = omega (arith, simp length-append at c.requires)

pub put_field-requires-2 : goal.put_field-requires-2
unfolding report_line
put_field-requires-2 c = omega (arith, simp length-append at c.requires)

pub put_field-requires-3 : goal.put_field-requires-3
unfolding report_line
put_field-requires-3 c = omega (arith, simp length-append at c.requires)

pub put_field-requires-4 : goal.put_field-requires-4
unfolding report_line
put_field-requires-4 c = omega (arith, simp length-append at c.requires)

pub put_field-requires-5 : goal.put_field-requires-5
unfolding report_line
put_field-requires-5 c = rw (c.from.ensures, is_bit c.args.report.complete) (omega (arith, simp length-append at c.requires))

pub put_field-requires-6 : goal.put_field-requires-6
unfolding report_line
put_field-requires-6 c =
    let e = rw (c.from.ensures, is_bit c.args.report.complete) at c.put_field-5.ensures.wrote in
    rw (c.from-2.ensures, is_bit c.args.report.approximate) (omega (arith, simp length-append at c.requires, e.put.ends))

pub put_bytes-requires : goal.put_bytes-requires
unfolding report_line
put_bytes-requires c =
    let e = rw (c.from.ensures, is_bit c.args.report.complete) at c.put_field-5.ensures.wrote in
    let f = rw (c.from-2.ensures, is_bit c.args.report.approximate) at c.put_field-6.ensures.wrote in
    omega (arith, simp length-append at c.requires, e.put.ends, f.put.ends)

pub returns-clause-wrote : goal.returns-clause-wrote
unfolding report_line
returns-clause-wrote c =
    let e = rw (c.from.ensures, is_bit c.args.report.complete) at c.put_field-5.ensures.wrote in
    let f = rw (c.from-2.ensures, is_bit c.args.report.approximate) at c.put_field-6.ensures.wrote in
    wrote_then (wrote_then (wrote_then (wrote_then (wrote_then (wrote_then c.put_field.ensures.wrote c.put_field-2.ensures.wrote) c.put_field-3.ensures.wrote) c.put_field-4.ensures.wrote) e) f) c.put_bytes.ensures.wrote
