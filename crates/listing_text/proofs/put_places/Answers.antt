use mathlib.Core.Path.{◌≡◌, refl, ◌∙◌}
use mathlib.Core.List.{List}
use Prim.Native.Nat.{ℕ, suc, ◌+◌, ◌≤◌, ◌<◌}
use native.Mathlib.Numerals.{add-one}
use native.Mathlib.Omega.{arith}
use lib.Ieee.{Float}
use lib.ListN.{length}
use Rattle.text.proofs.Puts.{wrote_none, wrote_then}
use Rattle.listing_text.specs.Listing.{place_line, line_at, lines, lines_of}
use Rattle.listing_text.proofs.Lines.{lines_next, lines-up, lines-le}
use Rattle.listing_text.proofs.put_places.Goals as goal

-- what is written with line i + 1 fits
room : (ids : List ℕ) (ds : List Float) (rows : List ℕ) (at count size : ℕ) → at + length (lines 1 (lines_of ids ds rows count)) ≤ size → (i : ℕ) → i < count
    → at + (length (lines 1 (lines_of ids ds rows i)) + length (place_line (i + 1) (line_at ids ds rows i))) ≤ size
room ids ds rows at count size r i h = rw (add-one i) (omega (arith, r, lines-le ids ds rows (suc i) count h, lines-up ids ds rows i))

pub loop-i-init : goal.loop-i-init
unfolding lines lines_of
loop-i-init c = (refl, wrote_none c.args.w.now)

pub float_to_bits-distances : goal.float_to_bits-distances
float_to_bits-distances c = c.requires.numbers c.loop-i.i c.loop-i-test.true

pub put_place-requires : goal.put_place-requires
put_place-requires c =
    let l = c.loop-i in
    let a = c.args in
    let h = room a.ids.now a.distances.now a.rows.now a.w.now.at a.count (length a.w.now.out.now) c.requires.room l.i c.loop-i-test.true in
    omega (arith, h, l.invariant.1.put.ends, l.invariant.1.size)

pub loop-i-preserved : goal.loop-i-preserved
loop-i-preserved c =
    let l = c.loop-i in
    let a = c.args in (
      c.put_place.ensures.same_reference ∙ l.invariant.0,
      rw (lines_next a.ids.now a.distances.now a.rows.now l.i) at (wrote_then l.invariant.1 c.put_place.ensures.wrote),
    )

pub returns : goal.returns
returns c =
    let l = c.loop-i in
    let all : l.i ≡ c.args.count = omega arith in
    record { same_reference = l.invariant.0; wrote = rw all at l.invariant.1 }
