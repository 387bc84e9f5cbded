use Rattle.std.proofs.Common.{◌≡◌}
use Rattle.text.specs.Wrote.{Wrote}
use Rattle.listing_text.specs.Listing.{lines, lines_of}
use Rattle.listing_text.proofs.put_places.Given as goal

abbrev pub invariant-loop-i : goal.invariant-loop-i
invariant-loop-i l =
    (l.w.out.ghost_name ≡ l.initial.w.out.ghost_name) × Wrote l.initial.w l.w (lines 1 (lines_of l.ids l.distances l.rows l.i))
