-- Readings R37: "Files of 65,536 bytes hold at most 3,272 rows".
use mathlib.Core.Path.{◌≡◌, sym}
use mathlib.Core.Bool.{true, true≢false, not, cond, ◌&&◌}
use mathlib.Core.List.{List}
use Prim.Native.Nat.{ℕ, ◌+◌, ◌*◌, ◌≤◌}
use native.Mathlib.Omega.{arith}
use lib.Dec.{leb, eqb}
use lib.ListN.{length}
use borrow.Author.Tests.{eqb-true, eqb-false, eq-eqb, ne_eqb}
use Rattle.le.proofs.Chain.{by}
use Rattle.config.specs.Limits.{max_segments, max_records}
use Rattle.format.specs.Fields.{generation_of, length_of_model, segments_of, rows_of}
use Rattle.format.specs.Head.{counts_ok, head_number}
use Rattle.format.proofs.Heads.{both, headed, bounds}
use Rattle.listing_text.specs.Listing.{most_places}
use Rattle.listing_input.specs.Parts.{max_file_bytes}

-- a library with rows has a segment
some-segment : (rows segments : ℕ) → cond (eqb rows 0) (eqb segments 0) (not (eqb segments 0)) ≡ true → (rows ≡ 0 → ⊥) → segments ≡ 0 → ⊥
some-segment rows segments h n e =
    let c : not true ≡ true = rw (ne_eqb rows 0 n, eq-eqb segments 0 e) at h in
    true≢false (sym c)

pub rows-most : (m : List ℕ) → head_number m ≡ 0 → length m ≤ max_file_bytes → rows_of m ≤ most_places
unfolding counts_ok
rows-most m e h =
    let b = bounds m e in
    let early = leb (65 + length_of_model m) (length m) && leb (segments_of m) max_segments && leb (rows_of m) max_records && not (eqb (generation_of m) 0) in
    let c = (both {b = eqb (length m) (65 + length_of_model m + 12 * segments_of m + 20 * rows_of m)} (headed m e).counts).0 in
    let k = some-segment (rows_of m) (segments_of m) (both {a = early} c).1 in
    by (eqb (rows_of m) 0)
    (λ z. omega (arith, eqb-true (rows_of m) 0 z))
    (λ z. let s = k (eqb-false (rows_of m) 0 z) in omega (arith, s, b.end, b.model_low))
