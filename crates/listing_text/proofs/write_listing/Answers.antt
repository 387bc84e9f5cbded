use mathlib.Core.Path.{◌≡◌, ap}
use mathlib.Core.List.{List, ◌++◌}
use Prim.Native.Nat.{ℕ, ◌≤◌, ◌<◌, ◌^◌}
use native.Mathlib.Omega.{arith}
use lib.Ieee.{Float}
use lib.ListN.{length, get_or}
use Rattle.text.specs.Wrote.{HasRoom}
use Rattle.text.specs.declared.Writer.{Writer}
use borrow.Author.Rules.{rules}
use Rattle.text.proofs.Puts.{put_end, wrote_then, room_first, room_then}
use Rattle.search_spec.specs.declared.Report.{Report}
use Rattle.listing_text.specs.Listing.{report_line, lines, listing, lines_of, most_places, listing_bytes}
use Rattle.listing_text.proofs.Lines.{Held, listing_bound}
use Rattle.listing_text.proofs.write_listing.Goals as goal

-- a writer with nothing written has room for all of it
room : (w : Writer) (r : Report) (ids : List ℕ) (ds : List Float) (rows : List ℕ) → w.at ≡ 0 → Held r → ((k : ℕ) → get_or ids k 0 < 2 ^ 64)
    → ((k : ℕ) → get_or rows k 0 < 2 ^ 64) → r.count ≤ most_places → listing_bytes ≤ length w.out.now
    → HasRoom w (report_line r ++ lines 1 (lines_of ids ds rows r.count))
unfolding listing
room w r ids ds rows e h i k n b = omega (arith, e, b, listing_bound r ids ds rows r.count h i k n)

pub put_report-requires : goal.put_report-requires
put_report-requires c =
    let a = c.args in
    let n = c.requires.count_le_most_places in
    let all =
    room c.new-w.result a.report a.ids.now a.distances.now a.rows.now c.new-w.ensures.at_start
    (record { generation = omega arith; sequence = omega arith; eligible = omega arith; measured = omega arith })
    (λ k. (c.type_inv.ids k).fits) (λ k. (c.type_inv.rows k).fits) n.0 (omega (arith, n.1, ap length c.new-w.ensures.unchanged)) in
    room_first c.new-w.result (report_line a.report) (lines 1 (lines_of a.ids.now a.distances.now a.rows.now a.report.count)) all

pub put_places-requires-clause-room : goal.put_places-requires-clause-room
put_places-requires-clause-room c =
    let a = c.args in
    let n = c.requires.count_le_most_places in
    let all =
    room c.new-w.result a.report a.ids.now a.distances.now a.rows.now c.new-w.ensures.at_start
    (record { generation = omega arith; sequence = omega arith; eligible = omega arith; measured = omega arith })
    (λ k. (c.type_inv.ids k).fits) (λ k. (c.type_inv.rows k).fits) n.0 (omega (arith, n.1, ap length c.new-w.ensures.unchanged)) in
    room_then (lines 1 (lines_of a.ids.now a.distances.now a.rows.now a.report.count)) all c.put_report.ensures.wrote

pub returns-clause-put : goal.returns-clause-put
unfolding listing
returns-clause-put c =
    let p = rw (c.new-w.ensures.unchanged, c.new-w.ensures.at_start) at (wrote_then c.put_report.ensures.wrote c.put_places.ensures.wrote).put in
    put_end (search rules) c.len.ensures p
