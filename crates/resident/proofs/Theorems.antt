-- What building leaves: each row of the slices is the encoder's own of its record; and a library that the segment check lets pass is
-- refused by 8 or 11 alone.
use mathlib.Core.Path.{◌≡◌, refl, sym, ap, ◌∙◌}
use mathlib.Core.Bool.{true}
use mathlib.Core.Logic.{◌↔◌}
use mathlib.Core.List.{List, [], ◌∷◌}
use Prim.Native.Nat.{ℕ, ◌≤◌, ◌<◌}
use native.Mathlib.Omega.{arith}
use lib.Dec.{eqb}
use lib.IntN.{ℤ, pos}
use lib.ListN.{length, drop}
use lib.Ieee.{Float, nan}
use borrow.Author.Tests.{eqb-false, eq-eqb}
use Rattle.le.proofs.Chain.{by, held}
use Rattle.le.proofs.LeLaws.{AllBytes}
use Rattle.le.proofs.Pastes.{paste-first}
use Rattle.config.specs.Refusal.{Refusal, none, refused}
use Rattle.config.proofs.Refusals.{or_none, none-refused, is_done}
use Rattle.quantization.specs.View.{valid_row}
use Rattle.quantization.specs.Encoder.{base_levels, midpoints}
use Rattle.quantization.proofs.Encoded.{base, base-table}
use Rattle.format.specs.Fields.{dimensions_of, rows_of, metric_at}
use Rattle.format.specs.Head.{head_at}
use Rattle.format.specs.Same.{is_same_head}
use Rattle.format.proofs.Same.{Unchanged}
use Rattle.cache_format.specs.Sizing.{codes_ok}
use Rattle.manifest.specs.Check.{manifest_number}
use Rattle.manifest.proofs.Passed.{other-room, manifest_not_5}
use Rattle.manifest.proofs.Heads.{accepted-head}
use Rattle.segment.specs.Check.{library_refusal}
use Rattle.segment.proofs.LibraryLaws.{library_accepted, accepted-number}
use Rattle.le.specs.Le.{joined}
use Rattle.encoded_rows.specs.Rows.{row_of, lowest_bad, bad_record_refusal}
use Rattle.encoded_rows.proofs.Written.{all_good, own_codes, rows-valid}
use Rattle.le.proofs.Joined.{part_at, element_at, length_stored}
use Rattle.resident.specs.Build.{resident_room_ok, resident_room_number, planned_refusal, build_refusal, zero_resident_state, resident_answer, built_by, codes_upto, scales_upto, norms_upto, codes_after, scales_after, norms_after, resident_at, resident_lengths_ok}
use Rattle.resident.specs.declared.ResidentState.{ResidentState}
use Rattle.resident.proofs.Answers.{refused-next, room-is, planned_none}

-- ---- each row where it belongs
module _ (levels : ℕ) (mids : List Float) (m s : List ℕ) where
  row_stands : (codes : List ℤ) (scales : List Float) (norms : List ℤ) (n r : ℕ) → r < n
      → resident_at (dimensions_of m) (codes_upto levels mids m s n codes) (scales_upto levels mids m s n scales) (norms_upto levels mids m s n norms) r ≡ row_of levels mids m s r
  row_stands codes scales norms n r h =
      let cs : ℕ → List ℤ = λ i. (row_of levels mids m s i).codes in
      let ss : ℕ → List Float = λ i. (row_of levels mids m s i).scale ∷ [] in
      let ns : ℕ → List ℤ = λ i. (row_of levels mids m s i).norm ∷ [] in
      rw (
        paste-first codes (joined cs n),
        paste-first scales (joined ss n),
        paste-first norms (joined ns n),
        part_at cs (dimensions_of m) (own_codes levels mids m s) n r (drop (length (joined cs n)) codes) h,
        element_at (λ i. (row_of levels mids m s i).scale) n r (drop (length (joined ss n)) scales) nan h,
        element_at (λ i. (row_of levels mids m s i).norm) n r (drop (length (joined ns n)) norms) (pos 0) h,
      )

  -- what building leaves where nothing is refused: each row, and the lengths as lent
  module _ (f : Refusal) (h : f.number ≡ 0) (codes : List ℤ) (scales : List Float) (norms : List ℤ) where
    pub built-rows : (r : ℕ) → r < rows_of m
        → resident_at (dimensions_of m) (codes_after levels mids m s f codes) (scales_after levels mids m s f scales) (norms_after levels mids m s f norms) r ≡ row_of levels mids m s r
    built-rows r l =
        let n = rows_of m in
        rw (is_done f (codes_upto levels mids m s n codes) codes h, is_done f (scales_upto levels mids m s n scales) scales h, is_done f (norms_upto levels mids m s n norms) norms h)
        (row_stands codes scales norms n r l)

    pub built-lengths : resident_room_ok (rows_of m) (dimensions_of m) (length codes) (length scales) (length norms) ≡ true
        → (length (codes_after levels mids m s f codes) ≡ length codes) × (length (scales_after levels mids m s f scales) ≡ length scales)
        × (length (norms_after levels mids m s f norms) ≡ length norms)
    built-lengths w =
        let p = room-is (rows_of m) (dimensions_of m) (length codes) (length scales) (length norms) w in
        let n = rows_of m in (
          ap length (is_done f (codes_upto levels mids m s n codes) codes h)
              ∙ length_stored (λ r. (row_of levels mids m s r).codes) (dimensions_of m) (own_codes levels mids m s) codes 0 n (omega (arith, p.0)),
          ap length (is_done f (scales_upto levels mids m s n scales) scales h) ∙ length_stored (λ r. (row_of levels mids m s r).scale ∷ []) 1 (λ r. refl) scales 0 n (omega (arith, p.1)),
          ap length (is_done f (norms_upto levels mids m s n norms) norms h) ∙ length_stored (λ r. (row_of levels mids m s r).norm ∷ []) 1 (λ r. refl) norms 0 n (omega (arith, p.2)),
        )

-- ---- what building answers where it refuses nothing
module _ (m : List ℕ) (expected room : ℕ) (s : List ℕ) (codes : List ℤ) (scales : List Float) (norms : List ℤ)
    (h : (build_refusal m expected room s (length codes) (length scales) (length norms)).number ≡ 0) where
  abbrev refusal : Refusal
  refusal = build_refusal m expected room s (length codes) (length scales) (length norms)

  planned : (lowest_bad m s ≡ rows_of m) × (resident_room_ok (rows_of m) (dimensions_of m) (length codes) (length scales) (length norms) ≡ true)
  unfolding build_refusal
  planned =
      planned_none m s (length codes) (length scales) (length norms)
      (none-refused (manifest_number m expected room) (planned_refusal m s (length codes) (length scales) (length norms)) h).1

  -- each row passes the row test
  pub built-valid : (r : ℕ) → r < rows_of m
      → valid_row base_levels (metric_at m)
      (resident_at (dimensions_of m) (codes_after base_levels midpoints m s refusal codes) (scales_after base_levels midpoints m s refusal scales) (norms_after base_levels midpoints m s refusal norms) r) ≡ true
  built-valid r l =
      ap (valid_row base_levels (metric_at m)) (built-rows base_levels midpoints m s refusal h codes scales norms r l) ∙ rows-valid m s base base-table planned.0 r l

  -- a search finds the lengths of the slices as the state has them
  pub built-held : resident_lengths_ok (built_by m refusal (length codes) (length scales) (length norms)).state (rows_of m) (dimensions_of m)
      (length (codes_after base_levels midpoints m s refusal codes)) (length (scales_after base_levels midpoints m s refusal scales)) (length (norms_after base_levels midpoints m s refusal norms)) ≡ true
  unfolding resident_lengths_ok resident_answer
  built-held =
      let l = built-lengths base_levels midpoints m s refusal h codes scales norms planned.1 in
      let b : ResidentState = record { head = head_at m; codes = length codes; scales = length scales; norms = length norms } in
      rw (is_done refusal b zero_resident_state h, l.0, l.1, l.2, eq-eqb (length codes) (length codes) refl, eq-eqb (length scales) (length scales) refl, eq-eqb (length norms) (length norms) refl) planned.1

  -- readings R3: against the state's head, the head test of a search is document 01's sentence on 21
  pub built-head : (lent : List ℕ) → AllBytes lent → AllBytes m
      → (is_same_head lent (built_by m refusal (length codes) (length scales) (length norms)).state.head ≡ true) ↔ Unchanged lent m
  unfolding build_refusal resident_answer
  built-head lent b c =
      let n = (none-refused (manifest_number m expected room) (planned_refusal m s (length codes) (length scales) (length norms)) h).0 in
      let st : ResidentState = record { head = head_at m; codes = length codes; scales = length scales; norms = length norms } in
      accepted-head lent m b c expected room _ n (ap (λ (x : ResidentState). x.head) (is_done refusal st zero_resident_state h))

-- ---- an accepted library
planned_accepted : (m s : List ℕ) → bad_record_refusal m s ≡ none → (codes scales norms : ℕ)
    → planned_refusal m s codes scales norms ≡ refused (resident_room_number (rows_of m) (dimensions_of m) codes scales norms) 0
unfolding planned_refusal
planned_accepted m s h codes scales norms = rw h (or_none (resident_room_number (rows_of m) (dimensions_of m) codes scales norms))

-- building it, with a scratch of at least rows elements, refuses by 8 or 11 alone, at 0
pub accepted-built : (m : List ℕ) (expected room : ℕ) (s : List ℕ) → (library_refusal m expected room s).number ≡ 0 → (other : ℕ) → rows_of m ≤ other
    → (codes scales norms : ℕ) → build_refusal m expected other s codes scales norms ≡ refused (resident_room_number (rows_of m) (dimensions_of m) codes scales norms) 0
accepted-built m expected room s h other f codes scales norms =
    let a = library_accepted m expected room s h in
    sym (refused-next m expected other s codes scales norms (other-room m expected room other (accepted-number a) f)) ∙ planned_accepted m s (all_good m s a.records) codes scales norms

room_not_5 : (rows dimensions codes scales norms : ℕ) → resident_room_number rows dimensions codes scales norms ≡ 5 → ⊥
unfolding resident_room_number
room_not_5 rows dimensions codes scales norms h =
    let a = held (codes_ok rows dimensions) (eqb-false 8 5 refl) h in
    let b = held (resident_room_ok rows dimensions codes scales norms) (eqb-false 11 5 refl) a.1 in
    eqb-false 0 5 refl b.1

-- and never, whatever CRC-32 is expected and whatever is lent, by 5
pub never_5 : (m : List ℕ) (expected room : ℕ) (s : List ℕ) → (library_refusal m expected room s).number ≡ 0 → (crc other codes scales norms : ℕ)
    → (build_refusal m crc other s codes scales norms).number ≡ 5 → ⊥
unfolding build_refusal
never_5 m expected room s h crc other codes scales norms e =
    let r = all_good m s (library_accepted m expected room s h).records in
    let f = rw (planned_accepted m s r codes scales norms) at e in
    by (eqb (manifest_number m crc other) 0) (λ y. room_not_5 (rows_of m) (dimensions_of m) codes scales norms (rw y at f)) (λ y. manifest_not_5 m crc other (rw y at f))
