-- A search that is lent slices of 3,272 elements refuses, reports and lists the same whatever stands in them; and they are long enough for
-- each library of a manifest of at most 65,536 bytes.
use mathlib.Core.Path.{◌≡◌, refl, sym, ap}
use mathlib.Core.Bool.{true}
use mathlib.Core.List.{List, []}
use Prim.Native.Nat.{ℕ, ◌≤◌, min}
use native.Mathlib.Omega.{arith}
use lib.Ieee.{Float}
use lib.ListN.{length, length-replicate}
use borrow.Author.Tests.{le-leb}
use Rattle.float.specs.Values.{plus_zero}
use Rattle.config.specs.Refusal.{refused_or, unless_refused}
use Rattle.format.specs.declared.Head.{Head}
use Rattle.search_spec.specs.Lent.{Rows, Wanted, Answers, Work, answers_of, work_of, handed, call_of}
use Rattle.search_spec.specs.Lists.{eligible_rows, candidate_rows, listed_rows}
use Rattle.search_spec.specs.Scan.{scan_refusal}
use Rattle.search_spec.specs.Tests.{room_of, room_ok, front_by}
use Rattle.search_spec.specs.Outcome.{Outcome, place_of, no_report, measured_rows, report_of, list_of, late_refusal, outcome_by, searched}
use Rattle.search_spec.specs.declared.Room.{Room}
use Rattle.listing_text.specs.Listing.{most_places}
use Rattle.listing.specs.Output.{lent_answers, lent_work}

pub record Sized (a : Answers) (w : Work) : Type 0 where
  pub ids : length a.ids ≡ most_places
  pub distances : length a.distances ≡ most_places
  pub rows : length a.rows ≡ most_places
  pub starts : length a.starts ≡ most_places
  pub lengths : length a.lengths ≡ most_places
  pub keys : length w.keys ≡ most_places
  pub candidates : length w.rows ≡ most_places
  pub wanted : length w.ids ≡ 0

pub sized : {ids rows starts lengths keys candidates : List ℕ} {distances : List Float} → most_places ≡ length ids → most_places ≡ length distances → most_places ≡ length rows
    → most_places ≡ length starts → most_places ≡ length lengths → most_places ≡ length keys → most_places ≡ length candidates
    → Sized (answers_of ids distances rows starts lengths) (work_of keys candidates [])
sized i d r s l k c =
    record { ids = sym i; distances = sym d; rows = sym r; starts = sym s; lengths = sym l; keys = sym k; candidates = sym c; wanted = refl }

abbrev pub full : Room
full =
    record {
      ids = most_places;
      distances = most_places;
      rows = most_places;
      starts = most_places;
      lengths = most_places;
      keys = most_places;
      candidates = most_places;
      wanted = 0;
    }

pub room-is : (a : Answers) (w : Work) → Sized a w → room_of a w ≡ full
room-is a w z = rw (z.ids, z.distances, z.rows, z.starts, z.lengths, z.keys, z.candidates, z.wanted)

pub lent-room : room_of lent_answers lent_work ≡ full
unfolding lent_answers lent_work
lent-room = rw (length-replicate {A = ℕ} most_places 0, length-replicate most_places plus_zero)

pub full_ok : (rows k limit : ℕ) → rows ≤ most_places → room_ok rows k limit 0 full ≡ true
full_ok rows k limit h = rw (le-leb (min k rows) most_places (omega arith), le-leb (min limit rows) most_places (omega arith))

-- ---- what does not depend on the elements
pub record Alike (o p : Outcome) : Type 0 where
  pub refusal : o.refusal ≡ p.refusal
  pub report : o.report ≡ p.report
  pub list : o.list ≡ p.list

pub alike : (head : Head) (rows : Rows) (m s : List ℕ) (wanted : Wanted) (query : List Float) (k limit : ℕ) (a b : Answers) (v w : Work) → room_of a v ≡ room_of b w
    → Alike (searched head rows (call_of m s wanted query k limit a v)) (searched head rows (call_of m s wanted query k limit b w))
unfolding searched outcome_by late_refusal report_of list_of place_of measured_rows eligible_rows candidate_rows listed_rows scan_refusal
alike head rows m s wanted query k limit a b v w e =
    let c = call_of m s wanted query k limit a v in
    let late = late_refusal rows c (candidate_rows rows c) in
    let refusal = λ (r : Room). refused_or (front_by head m (handed wanted) query k limit r) late in
    record {
      refusal = ap refusal e;
      report = ap (λ (r : Room). unless_refused (refusal r) (report_of rows c) no_report) e;
      list = ap (λ (r : Room). unless_refused (refusal r) (list_of rows c) []) e;
    }
