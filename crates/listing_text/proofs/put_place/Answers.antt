use native.Mathlib.Omega.{arith}
use lib.ListN.{length-append}
use Rattle.text.proofs.Hex.{length_hex16}
use Rattle.text.proofs.Puts.{wrote_then}
use Rattle.listing_text.specs.Listing.{place_line}
use Rattle.listing_text.proofs.put_place.Goals as goal

pub put_decimal-requires : goal.put_decimal-requires
unfolding place_line
put_decimal-requires c = omega (arith, simp length-append at c.requires, length_hex16 c.args.bits)

pub put_field-requires : goal.put_field-requires
unfolding place_line
put_field-requires c = omega (arith, simp length-append at c.requires, length_hex16 c.args.bits)

pub put_bytes-requires : goal.put_bytes-requires
unfolding place_line
put_bytes-requires c = omega (arith, simp length-append at c.requires, length_hex16 c.args.bits)

pub put_hex16-requires : goal.put_hex16-requires
unfolding place_line
put_hex16-requires c = omega (arith, simp length-append at c.requires, length_hex16 c.args.bits)

pub put_field-requires-2 : goal.put_field-requires-2
unfolding place_line
put_field-requires-2 c = omega (arith, simp length-append at c.requires, length_hex16 c.args.bits)

pub put_bytes-requires-2 : goal.put_bytes-requires-2
unfolding place_line
put_bytes-requires-2 c = omega (arith, simp length-append at c.requires, length_hex16 c.args.bits)

pub returns-clause-wrote : goal.returns-clause-wrote
unfolding place_line
returns-clause-wrote c =
    wrote_then (wrote_then (wrote_then (wrote_then (wrote_then c.put_decimal.ensures.wrote c.put_field.ensures.wrote) c.put_bytes.ensures.wrote) c.put_hex16.ensures.wrote) c.put_field-2.ensures.wrote) c.put_bytes-2.ensures.wrote
