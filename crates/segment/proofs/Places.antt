-- Where segments and records lie in the slice.
use mathlib.Core.Path.{◌≡◌, refl, sym, ◌∙◌}
use mathlib.Core.Bool.{true}
use mathlib.Core.List.{List, map}
use mathlib.Core.Logic.{⊎_elim}
use Prim.Native.Nat.{ℕ, zero, suc, ◌+◌, ◌-◌, ◌*◌, ◌≤◌, ◌<◌}
use native.Mathlib.Numerals.{add-one}
use native.Mathlib.Omega.{arith}
use lib.ListN.{get_or, set, replicate, get_or-map, get_or-append}
use lib.Seq.{set_at, append_snoc}
use Rattle.crc32.specs.Tables.{tab}
use Rattle.crc32.proofs.Tab.{at, length_tab, tab-more}
use Rattle.format.specs.Layout.{LaidOut}
use Rattle.format.specs.declared.Layout.{Layout}
use Rattle.le.proofs.Chain.{lt_or_le}
use Rattle.format.specs.Fields.{segments_of, length_of, segment_at, record_length}
use Rattle.format.specs.Head.{lengths_ok}
use Rattle.entries.specs.Plan.{entry_ok}
use Rattle.entries.proofs.Entries.{length_bounds, entered_by}
use Rattle.manifest.specs.Scratch.{key_row}
use Rattle.segment.specs.Record.{start_of, record_at, starts_to, starts_of}

pub start-more : (m : List ℕ) (n : ℕ) → start_of m (n + 1) ≡ start_of m n + length_of m n
unfolding start_of
start-more m n = rw (add-one n)

pub start_none : (m : List ℕ) → start_of m 0 ≡ 0
unfolding start_of
start_none m = refl

module _ (m : List ℕ) (ok : lengths_ok m ≡ true) where
  pub start_bound : (n : ℕ) → n ≤ segments_of m → start_of m n ≤ n * 67108864
  start_bound zero h = let e = start_none m in omega (arith, e)
  start_bound (suc n) h =
      let i = start_bound n (omega arith) in
      let e = rw (add-one n) at (start-more m n) in
      let b = length_bounds m n ok (omega arith) in
      omega (arith, i, e, b.1)

  -- a segment ends at or before the end of all
  pub start-within : (k n : ℕ) → n < k → k ≤ segments_of m → start_of m n + length_of m n ≤ start_of m k
  start-within zero n h q = absurd (omega arith)
  start-within (suc k) n h q =
      let e = rw (add-one k) at (start-more m k) in
      ⊎_elim (λ (l : n < k). let i = start-within k n l (omega arith) in omega (arith, i, e))
      (λ (g : k ≤ n). let f : n ≡ k = omega arith in rw f (omega (arith, e))) (lt_or_le n k)

  -- a record lies in its segment
  pub record_within : (r : ℕ) → entry_ok m r ≡ true → record_at m r + record_length m r + 4 ≤ start_of m (segments_of m)
  unfolding record_at
  record_within r h =
      let e = entered_by m r ok h in
      let w = start-within (segments_of m) (segment_at m r) e.segment (omega arith) in
      omega (arith, e.end, w)

  pub all_bound : start_of m (segments_of m) ≤ segments_of m * 67108864
  all_bound = start_bound (segments_of m) (omega arith)

-- a record ends where it can be counted
pub record_bound : {m : List ℕ} {l : Layout} → LaidOut m l → lengths_ok m ≡ true → (r : ℕ) → entry_ok m r ≡ true → record_at m r + record_length m r ≤ 1024 * 67108864
record_bound {m} p ok r h = let w = record_within m ok r h in let q = all_bound m ok in omega (arith, w, q, p.few)

-- ---- the starts, one a turn
pub next_start : (m : List ℕ) (l : Layout) → LaidOut m l → lengths_ok m ≡ true → {n sum x : ℕ} → n < l.segments → sum ≡ start_of m n → x ≡ length_of m n
    → (sum + x ≡ start_of m (n + 1)) × (sum + x ≤ 1024 * 67108864)
next_start m l p ok {n} {sum} {x} h e f =
    let g = start-more m n in
    let k : n + 1 ≤ segments_of m = omega (arith, h, p.segments) in
    let q = start_bound m ok (n + 1) k in
    let s : sum + x ≡ start_of m (n + 1) = omega (arith, e, f, g) in
    (s, omega (arith, s, q, k, p.few))

pub starts_none : (m : List ℕ) → replicate 1025 0 ≡ starts_to m 0
unfolding starts_to start_of
starts_none m = refl

pub starts_more : (m : List ℕ) (n : ℕ) {v : ℕ} → n < 1024 → v ≡ start_of m (n + 1) → set (starts_to m n) (n + 1) v ≡ starts_to m (n + 1)
unfolding starts_to
starts_more m n {v} h e =
    let g = start_of m in
    let z : List ℕ = replicate (1024 - (n + 1)) 0 in
    let k : 1024 - n ≡ suc (1024 - (n + 1)) = omega arith in
    rw k (set_at (tab g 0 (n + 1)) 0 z v (n + 1) (length_tab g 0 (n + 1)) ∙ rw (tab-more g (n + 1), e) (sym (append_snoc (tab g 0 (n + 1)) (g (n + 1)) z)))

pub start-at : (m : List ℕ) {t : List ℕ} → t ≡ starts_of m → (n : ℕ) → n ≤ segments_of m → get_or t n 0 ≡ start_of m n
unfolding starts_to
start-at m e n h =
    let g = start_of m in
    let k : n < segments_of m + 1 = omega arith in
    rw e (get_or-append (tab g 0 (segments_of m + 1)) (replicate (1024 - segments_of m) 0) 0 n (rw (length_tab g 0 (segments_of m + 1)) k) ∙ at g (segments_of m + 1) n k)

-- the row of the i-th key
pub row-at : (keys : List ℕ) (i : ℕ) → get_or (map key_row keys) i 0 ≡ key_row (get_or keys i 0)
unfolding key_row
row-at keys i = get_or-map key_row keys i 0

-- where a segment ends
pub record Ends (m : List ℕ) (n size : ℕ) : Type 0 where
  pub long : 4 ≤ length_of m n
  pub short : length_of m n ≤ 67108864
  pub within : start_of m n + length_of m n ≤ size
  pub bound : size ≤ 1024 * 67108864

pub ends : (m : List ℕ) (l : Layout) → LaidOut m l → lengths_ok m ≡ true → (n size : ℕ) → n < l.segments → size ≡ start_of m (segments_of m) → Ends m n size
ends m l p ok n size h e =
    let k : n < segments_of m = omega (arith, h, p.segments) in
    let b = length_bounds m n ok k in
    let w = start-within m ok (segments_of m) n k (omega arith) in
    let q = all_bound m ok in
    record { long = b.0; short = b.1; within = omega (arith, w, e); bound = omega (arith, q, e, p.few) }
