-- What an accepted library is: its entries lie in the segments, ids rise, each record passes its test; and such a library is accepted.
use mathlib.Core.Path.{◌≡◌, ap}
use mathlib.Core.Bool.{true, cond}
use mathlib.Core.Logic.{◌↔◌}
use mathlib.Core.List.{List}
use Prim.Native.Nat.{ℕ, ◌+◌, ◌≤◌, ◌<◌}
use lib.Dec.{eqb}
use lib.ListN.{length, get_or}
use borrow.Author.Tests.{eqb-true, eq-eqb}
use Rattle.le.proofs.LeLaws.{AllBytes}
use Rattle.rank.proofs.Members.{all-at, mem-get_or}
use Rattle.config.specs.Refusal.{Refusal, none, refused}
use Rattle.config.proofs.Refusals.{not_zero, held_number, none-refused as both_none}
use Rattle.format.specs.Fields.{segments_of, rows_of, id_at, segment_at, record_length}
use Rattle.format.proofs.Heads.{bounds}
use Rattle.format.proofs.First.{each_passes, all_pass}
use Rattle.format.proofs.Refusals.{each_none, all_none}
use Rattle.format.specs.Same.{is_same_head}
use Rattle.format.proofs.Same.{Unchanged}
use Rattle.entries.specs.Plan.{plan_number}
use Rattle.entries.proofs.Entries.{Entered, entered, entry_keeps, lengths_of, ids_rise}
use Rattle.manifest.specs.Tiling.{in_segment, tiled}
use Rattle.manifest.specs.Check.{manifest_number, checked_by}
use Rattle.manifest.proofs.Passed.{Planned, accepted, plans}
use Rattle.manifest.proofs.Heads.{answered-head}
use Rattle.manifest.proofs.Parts.{of_segment, in_segment_lem}
use Rattle.segment.specs.Record.{start_of, record_at, record_ok}
use Rattle.segment.specs.Check.{bad_record, segment_crc_ok, segment_records_refusal, segment_refusal, in_order, segments_refusal, library_refusal, checked_library}
use Rattle.segment.proofs.Places.{record_within}

-- a segment that is not refused: its rows' records pass, and its CRC-32
rows_pass : (m s : List ℕ) (n : ℕ) (rows : List ℕ) → (segment_records_refusal m s n rows).number ≡ 0
    → ((i : ℕ) → i < length rows → record_ok m s (get_or rows i 0) ≡ true) × (segment_crc_ok m s n ≡ true)
unfolding segment_records_refusal
rows_pass m s n rows h =
    let a = held_number (eqb (bad_record m s rows) (length rows)) (cond (segment_crc_ok m s n) none (refused 6 n)) (refused 5 (get_or rows (bad_record m s rows) 0)) not_zero h in
    let b = held_number (segment_crc_ok m s n) none (refused 6 n) not_zero a.1 in
    ((λ i k. each_passes (λ j. record_ok m s (get_or rows j 0)) (length rows) i (eqb-true (bad_record m s rows) (length rows) a.0) k), b.0)

pub record Accepted (m : List ℕ) (expected room : ℕ) (s : List ℕ) : Type 0 where
  pub passed : Planned m expected room
  pub tiling : tiled m ≡ true
  pub whole : length s ≡ start_of m (segments_of m)
  pub entries : (r : ℕ) → r < rows_of m → Entered m r
  pub inside : (r : ℕ) → r < rows_of m → record_at m r + record_length m r + 4 ≤ length s
  pub ids : (r t : ℕ) → r < t → t < rows_of m → id_at m r < id_at m t
  pub records : (r : ℕ) → r < rows_of m → record_ok m s r ≡ true
  pub sums : (n : ℕ) → n < segments_of m → segment_crc_ok m s n ≡ true

pub library_accepted : (m : List ℕ) (expected room : ℕ) (s : List ℕ) → (library_refusal m expected room s).number ≡ 0 → Accepted m expected room s
unfolding library_refusal segments_refusal
library_accepted m expected room s h =
    let n = both_none (manifest_number m expected room) (segments_refusal m s) h in
    let a = accepted m expected room n.0 in
    let ok = a.0.rows in
    let b = held_number (eqb (length s) (start_of m (segments_of m))) (in_order m s) (refused 5 0) not_zero n.1 in
    let w = eqb-true (length s) (start_of m (segments_of m)) b.0 in
    let each : (n : ℕ) → n < segments_of m → ((i : ℕ) → i < length (in_segment m n) → record_ok m s (get_or (in_segment m n) i 0) ≡ true) × (segment_crc_ok m s n ≡ true) =
    λ n k. rows_pass m s n (in_segment m n) (each_none (segment_refusal m s) (segments_of m) b.1 n k) in
    record {
      passed = a.0;
      tiling = a.1;
      whole = w;
      entries = λ r k. entered m r ok k;
      inside = λ r k. rw w (record_within m (lengths_of m ok) r (entry_keeps m r ok k));
      ids = λ r t l k. ids_rise m r t ok l k;
      records = λ r k. all-at (λ z. record_ok m s z ≡ true) (in_segment m (segment_at m r)) 0 (each (segment_at m r) (entered m r ok k).segment).0 r (of_segment m r k);
      sums = λ n k. (each n k).1;
    }

-- and what is such is accepted
none-refused : (m : List ℕ) (expected room : ℕ) (s : List ℕ) → Accepted m expected room s → (n : ℕ) → n < segments_of m → segment_refusal m s n ≡ none
unfolding segment_records_refusal
none-refused m expected room s a n k =
    let rows = in_segment m n in
    let each : (i : ℕ) → i < length rows → record_ok m s (get_or rows i 0) ≡ true =
    λ i h. a.records (get_or rows i 0) (in_segment_lem m a.passed.rows (bounds m a.passed.head).most n (get_or rows i 0) (mem-get_or rows i 0 h)) in
    rw (eq-eqb (bad_record m s rows) (length rows) (all_pass (λ i. record_ok m s (get_or rows i 0)) (length rows) each), a.sums n k)

pub accepted-number : {m : List ℕ} {expected room : ℕ} {s : List ℕ} → Accepted m expected room s → manifest_number m expected room ≡ 0
unfolding manifest_number
accepted-number {m} {expected} {room} a = rw (eq-eqb (plan_number m expected room) 0 (plans a.passed), a.tiling)

pub accepted_library : (m : List ℕ) (expected room : ℕ) (s : List ℕ) → Accepted m expected room s → library_refusal m expected room s ≡ none
unfolding library_refusal segments_refusal
accepted_library m expected room s a =
    rw (eq-eqb (manifest_number m expected room) 0 (accepted-number a), eq-eqb (length s) (start_of m (segments_of m)) a.whole)
    (all_none (segment_refusal m s) (segments_of m) (λ n k. ap (λ (r : Refusal). r.number) (none-refused m expected room s a n k)))

-- the head that the check hands out (readings R3)
pub library_head : (m m₀ : List ℕ) → AllBytes m → AllBytes m₀ → (expected room : ℕ) (s : List ℕ) → (checked_library m₀ expected room s).refusal.number ≡ 0
    → (is_same_head m (checked_library m₀ expected room s).head ≡ true) ↔ Unchanged m m₀
unfolding checked_by library_refusal
library_head m m₀ b b₀ expected room s h =
    answered-head m m₀ b b₀ expected room (library_refusal m₀ expected room s) (both_none (manifest_number m₀ expected room) (segments_refusal m₀ s) h).0 h
