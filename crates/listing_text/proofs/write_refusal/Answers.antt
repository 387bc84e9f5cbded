use mathlib.Core.Path.{ap}
use native.Mathlib.Omega.{arith}
use lib.ListN.{length, length-append}
use borrow.Author.Rules.{rules}
use Rattle.text.proofs.Puts.{put_end, wrote_then}
use Rattle.config.specs.Refusal.{refused}
use Rattle.listing_text.specs.Listing.{refusal_text}
use Rattle.listing_text.proofs.Lines.{refusal_bound}
use Rattle.listing_text.proofs.write_refusal.Goals as goal

pub put_field-requires : goal.put_field-requires
unfolding refusal_text
put_field-requires c = omega (arith, simp length-append at (refusal_bound (refused c.number.result c.args.refused.place) (omega arith) (omega arith)), ap length c.new-w.ensures.unchanged)

pub put_field-requires-2 : goal.put_field-requires-2
unfolding refusal_text
put_field-requires-2 c = omega (arith, simp length-append at (refusal_bound (refused c.number.result c.args.refused.place) (omega arith) (omega arith)), ap length c.new-w.ensures.unchanged)

pub put_bytes-requires : goal.put_bytes-requires
unfolding refusal_text
put_bytes-requires c = omega (arith, simp length-append at (refusal_bound (refused c.number.result c.args.refused.place) (omega arith) (omega arith)), ap length c.new-w.ensures.unchanged)

pub returns-clause-put : goal.returns-clause-put
unfolding refusal_text
returns-clause-put c =
    let p = rw (c.new-w.ensures.unchanged, c.new-w.ensures.at_start, c.number.ensures) at (wrote_then (wrote_then c.put_field.ensures.wrote c.put_field-2.ensures.wrote) c.put_bytes.ensures.wrote).put in
    put_end (search rules) c.len.ensures p
