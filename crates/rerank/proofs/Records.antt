-- The record of a row: where its coordinates begin, and what its tests say.
use mathlib.Core.Path.{◌≡◌}
use mathlib.Core.Bool.{true, not}
use mathlib.Core.List.{List}
use mathlib.Core.Logic.{⊎_elim}
use Prim.Native.Nat.{ℕ, ◌+◌, ◌*◌, ◌≤◌, ◌<◌}
use native.Mathlib.Omega.{arith}
use lib.Dec.{T}
use lib.Ieee.{Float, nan, is_nan}
use lib.Ieee.Scale.{finite}
use lib.ListN.{length, get_or}
use Rattle.le.proofs.Chain.{lt_or_le}
use Rattle.float.proofs.BitLaws.{finite_number}
use Rattle.float.proofs.Quads.{all-four}
use Rattle.config.specs.Refusal.{none, refused}
use Rattle.config.specs.Vector.{floats_at}
use Rattle.config.specs.declared.Metric.{Metric}
use Rattle.config.proofs.Refusals.{not_zero, held_number}
use Rattle.format.specs.Fields.{segments_of, rows_of, metric_at, dimensions_of, record_length}
use Rattle.entries.specs.Plan.{rows_ok}
use Rattle.entries.proofs.Entries.{lengths_of, entry_keeps}
use Rattle.segment.specs.Record.{record_at, record_ok}
use Rattle.segment.proofs.Places.{record_within, all_bound}
use Rattle.segment.proofs.RecordLaws.{good}
use Rattle.math.specs.Distance.{Readable, original}
use Rattle.search_spec.specs.Lists.{original_at}
use Rattle.search_spec.specs.Scan.{record_refusal}
use Rattle.rerank.specs.Rerank.{all_four, all_finite, originals}

pub number : (x : Float) → finite x ≡ true → T (not (is_nan x))
number x h = finite_number x (rw h tt)

module _ (m s : List ℕ) (r : ℕ) where
  -- a record begins where it can be counted
  pub record_low : segments_of m ≤ 1024 → rows_ok m ≡ true → r < rows_of m → record_at m r + 12 ≤ 1024 * 67108864
  unfolding record_length
  record_low few ok h =
      let l = lengths_of m ok in
      let w = record_within m l r (entry_keeps m r ok h) in
      let b = all_bound m l in
      omega (arith, w, b, few)

  -- the coordinates of one that holds, as they are read: n of them
  pub readable : {n at : ℕ} → n ≡ dimensions_of m → at ≡ record_at m r + 12 → record_ok m s r ≡ true → Readable n s at
  readable e f h = let g = good m s r h in rw (e, f) (record { bytes = g.inside; fine = g.fine })

  pub distance_is : (q : List Float) {metric : Metric} → length q ≡ dimensions_of m → metric ≡ metric_at m
      → original metric q (floats_at (length q) s (record_at m r + 12)) ≡ original_at m s q r
  unfolding original_at
  distance_is q e f = rw (e, f)

module _ (m s : List ℕ) (q : List Float) (r : ℕ) where
  -- not refused: the record holds, and its distance is finite
  record_none : record_ok m s r ≡ true → finite (original_at m s q r) ≡ true → (record_refusal m s q r).number ≡ 0
  unfolding record_refusal
  record_none h k = rw (h, k)

  pub record_fine : (record_refusal m s q r).number ≡ 0 → finite (original_at m s q r) ≡ true
  unfolding record_refusal
  record_fine z = (held_number (finite (original_at m s q r)) none (refused 24 r) not_zero (held_number (record_ok m s r) _ (refused 23 r) not_zero z).1).0

-- ---- four records that hold, and four finite numbers
pub four_records : (m s rows : List ℕ) (i : ℕ) → all_four (record_ok m s) rows i ≡ true
    → (record_ok m s (get_or rows i 0) ≡ true) × (record_ok m s (get_or rows (i + 1) 0) ≡ true) × (record_ok m s (get_or rows (i + 2) 0) ≡ true) × (record_ok m s (get_or rows (i + 3) 0) ≡ true)
four_records m s rows i = all-four (record_ok m s (get_or rows i 0)) (record_ok m s (get_or rows (i + 1) 0)) (record_ok m s (get_or rows (i + 2) 0)) (record_ok m s (get_or rows (i + 3) 0))

four-finites : (x : List Float) → all_finite x ≡ true
    → (finite (get_or x 0 nan) ≡ true) × (finite (get_or x 1 nan) ≡ true) × (finite (get_or x 2 nan) ≡ true) × (finite (get_or x 3 nan) ≡ true)
four-finites x = all-four (finite (get_or x 0 nan)) (finite (get_or x 1 nan)) (finite (get_or x 2 nan)) (finite (get_or x 3 nan))

-- one of four from i on
one_of_four : (P : ℕ → Type 0) (i j : ℕ) → i ≤ j → j < i + 4 → P i → P (i + 1) → P (i + 2) → P (i + 3) → P j
one_of_four P i j g h a b c d =
    ⊎_elim (λ (l : j < i + 2). ⊎_elim (λ (u : j < i + 1). let e : j ≡ i = omega arith in rw e a) (λ (u : i + 1 ≤ j). let e : j ≡ i + 1 = omega arith in rw e b) (lt_or_le j (i + 1)))
    (λ (l : i + 2 ≤ j). ⊎_elim (λ (u : j < i + 3). let e : j ≡ i + 2 = omega arith in rw e c) (λ (u : i + 3 ≤ j). let e : j ≡ i + 3 = omega arith in rw e d) (lt_or_le j (i + 3)))
    (lt_or_le j (i + 2))

pub number_in : (x : List Float) (k : ℕ) → all_finite x ≡ true → k < 4 → T (not (is_nan (get_or x k nan)))
number_in x k h l =
    let a = four-finites x h in
    number (get_or x k nan) (one_of_four (λ n. finite (get_or x n nan) ≡ true) 0 k (omega arith) l a.0 a.1 a.2 a.3)

-- none of the four is refused
pub four_pass : (m s : List ℕ) (q : List Float) (rows : List ℕ) (i : ℕ) → all_four (record_ok m s) rows i ≡ true → all_finite (originals m s q rows i) ≡ true
    → (j : ℕ) → i ≤ j → j < i + 4 → (record_refusal m s q (get_or rows j 0)).number ≡ 0
four_pass m s q rows i t f j g h =
    let a = four_records m s rows i t in
    let b = four-finites (originals m s q rows i) f in
    one_of_four (λ n. (record_refusal m s q (get_or rows n 0)).number ≡ 0) i j g h (record_none m s q _ a.0 b.0) (record_none m s q _ a.1 b.1) (record_none m s q _ a.2 b.2) (record_none m s q _ a.3 b.3)
