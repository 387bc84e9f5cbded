-- What the rules of segments and entries say of a row.
use mathlib.Core.Path.{◌≡◌}
use mathlib.Core.Bool.{true}
use mathlib.Core.List.{List}
use mathlib.Core.Logic.{◌⊎◌, inl, inr, ⊎_elim}
use Prim.Native.Nat.{ℕ, zero, suc, ◌+◌, ◌≤◌, ◌<◌}
use native.Mathlib.Omega.{arith}
use lib.Dec.{ltb}
use borrow.Author.Tests.{ltb-true, leb-true, eqb-true, eq-eqb}
use Rattle.le.proofs.Chain.{lt_or_le}
use Rattle.config.specs.Limits.{max_metadata, max_segment_bytes}
use Rattle.utf8.specs.Grammar.{span}
use Rattle.format.specs.Fields.{segments_of, rows_of, length_of, id_at, segment_at, offset_at, metadata_at, record_length}
use Rattle.format.specs.Head.{bad_length, lengths_ok}
use Rattle.entries.specs.Plan.{rises, entry_ok, bad_entry, rows_ok}
use Rattle.format.proofs.First.{each_passes}
use Rattle.format.proofs.Heads.{both, in_range}

pub lengths_of : (m : List ℕ) → rows_ok m ≡ true → lengths_ok m ≡ true
unfolding rows_ok
lengths_of m ok = (both ok).0

pub rows_by : (m : List ℕ) → lengths_ok m ≡ true → bad_entry m ≡ rows_of m → rows_ok m ≡ true
unfolding rows_ok
rows_by m h e = rw (h, eq-eqb (bad_entry m) (rows_of m) e)

pub length_bounds : (m : List ℕ) (n : ℕ) → lengths_ok m ≡ true → n < segments_of m → (4 ≤ length_of m n) × (length_of m n ≤ 67108864)
unfolding lengths_ok
length_bounds m n ok h =
    in_range 4 max_segment_bytes (length_of m n) (each_passes (λ k. span 4 max_segment_bytes (length_of m k)) (segments_of m) n (eqb-true (bad_length m) (segments_of m) ok) h)

-- a row's entry keeps its rules
pub record Entered (m : List ℕ) (r : ℕ) : Type 0 where
  pub segment : segment_at m r < segments_of m
  pub rising : rises m r ≡ true
  pub metadata : metadata_at m r ≤ 16384
  pub end : offset_at m r + record_length m r + 4 ≤ length_of m (segment_at m r)
  pub bound : length_of m (segment_at m r) ≤ 67108864

pub entered_by : (m : List ℕ) (r : ℕ) → lengths_ok m ≡ true → entry_ok m r ≡ true → Entered m r
unfolding entry_ok
entered_by m r ok h =
    let c = both h in
    let b = both c.0 in
    let a = both {a = ltb (segment_at m r) (segments_of m)} {b = rises m r} b.0 in
    let s = ltb-true (segment_at m r) (segments_of m) a.0 in
    record {
      segment = s;
      rising = a.1;
      metadata = leb-true (metadata_at m r) max_metadata b.1;
      end = leb-true (offset_at m r + record_length m r + 4) (length_of m (segment_at m r)) c.1;
      bound = (length_bounds m (segment_at m r) ok s).1;
    }

pub entry_keeps : (m : List ℕ) (r : ℕ) → rows_ok m ≡ true → r < rows_of m → entry_ok m r ≡ true
unfolding rows_ok
entry_keeps m r ok h = each_passes (entry_ok m) (rows_of m) r (eqb-true (bad_entry m) (rows_of m) (both {a = lengths_ok m} ok).1) h

pub entered : (m : List ℕ) (r : ℕ) → rows_ok m ≡ true → r < rows_of m → Entered m r
entered m r ok h = entered_by m r (lengths_of m ok) (entry_keeps m r ok h)

eq_or_lt : (r s : ℕ) → r < suc s → (r ≡ s) ⊎ (r < s)
eq_or_lt r s h = ⊎_elim (λ l. inr l) (λ g. inl (omega (arith, g))) (lt_or_le r s)

-- document 01, Layouts: "Ids rise strictly"
pub ids_rise : (m : List ℕ) (r s : ℕ) → rows_ok m ≡ true → r < s → s < rows_of m → id_at m r < id_at m s
unfolding rises
ids_rise m r zero ok h k = absurd (omega arith)
ids_rise m r (suc s) ok h k =
    let step = ltb-true (id_at m s) (id_at m (suc s)) (entered m (suc s) ok k).rising in
    ⊎_elim (λ (e : r ≡ s). rw e step) (λ (l : r < s). let i = ids_rise m r s ok l (omega arith) in omega (arith, i, step)) (eq_or_lt r s (omega arith))
