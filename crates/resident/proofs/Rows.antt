-- Where a row's codes lie, and what the encoder asks of a good record.
use mathlib.Core.Path.{◌≡◌, refl, ◌∙◌}
use mathlib.Core.Bool.{true}
use mathlib.Core.List.{List}
use Prim.Native.Nat.{ℕ, ◌+◌, ◌-◌, ◌*◌, ◌≤◌, ◌<◌}
use native.Mathlib.Nat.{mul-le-mul}
use native.Mathlib.Omega.{arith}
use lib.ListN.{length, take, drop, length-take, length-drop}
use lib.IntN.{ℤ}
use lib.Ieee.{Float}
use mir.Syntax.{w64}
use mir.Val.{to_z, of_z}
use mir.Facts.{to_z-of_z}
use Rattle.config.specs.Vector.{finites, floats_at}
use Rattle.config.proofs.Vectors.{length_floats}
use Rattle.format.specs.Layout.{LaidOut}
use Rattle.format.specs.declared.Layout.{Layout}
use Rattle.format.specs.Fields.{dimensions_of, rows_of}
use Rattle.segment.specs.Record.{record_at}
use Rattle.quantization.specs.Encoder.{Levels, encode, midpoints_of}
use Rattle.quantization.proofs.Encoded.{norm-fits, formula}
use Rattle.le.proofs.Joined.{part-ends}
use Rattle.encoded_rows.specs.Rows.{row_of}
use Rattle.segment.proofs.RecordLaws.{Good}

-- ---- where a row's codes lie
pub room : {m : List ℕ} {l : Layout} → LaidOut m l → (n row : ℕ) → row < l.rows → rows_of m * dimensions_of m ≤ n
    → (row * l.dimensions + l.dimensions ≤ n) × (row * l.dimensions + l.dimensions ≤ 1000000 * 4096)
room {m} {l} p n row h w =
    let a : row * l.dimensions + l.dimensions ≤ rows_of m * dimensions_of m = rw p.dimensions (part-ends row (dimensions_of m) (rows_of m) (omega (arith, h, p.rows))) in
    let b = mul-le-mul p.most p.high in
    (omega (arith, a, w), omega (arith, a, b))

pub part_length : {A : Type 0} (cs : List A) (at e k : ℕ) → e ≡ at + k → at + k ≤ length cs → length (take (e - at) (drop at cs)) ≡ k
part_length cs at e k p h = rw (length-take (e - at) (drop at cs), length-drop at cs) (omega arith)

-- the part that is lent for a row's codes
pub own_part : {A : Type 0} {m : List ℕ} {l : Layout} → LaidOut m l → (cs : List A) (row : ℕ) → row < l.rows → rows_of m * dimensions_of m ≤ length cs
    → length (take (row * l.dimensions + l.dimensions - row * l.dimensions) (drop (row * l.dimensions) cs)) ≡ dimensions_of m
own_part {l} p cs row h w = part_length cs (row * l.dimensions) (row * l.dimensions + l.dimensions) l.dimensions refl (room p (length cs) row h w).0 ∙ p.dimensions

pub same_row : (levels : ℕ) (mids : List Float) (m s : List ℕ) (r n from : ℕ) → n ≡ dimensions_of m → from ≡ record_at m r + 12 → encode levels mids (floats_at n s from) ≡ row_of levels mids m s r
same_row levels mids m s r n from p q = rw (p, q)

-- what the encoder asks of a row's record, into a part as long as the dimensions
pub asks : (m s : List ℕ) (r : ℕ) {n from : ℕ} → n ≡ dimensions_of m → dimensions_of m ≤ 4096 → from ≡ record_at m r → Good m s r
    → ((n ≤ 4096) × (from + 12 + 4 * n ≤ length s)) × (finites (floats_at n s (from + 12)) ≡ true)
asks m s r {n} {from} e h f g = rw (e, f) ((h, g.inside), g.fine)

-- a norm is stored by its bits
pub norm_stored : {levels : ℕ} → Levels levels → (m s : List ℕ) (r : ℕ) {z : ℤ} → dimensions_of m ≤ 4096
    → let e = row_of levels (midpoints_of levels) m s r in
    z ≡ e.norm → to_z w64 (of_z w64 z) ≡ e.norm
norm_stored {levels} g m s r h e =
    let n = dimensions_of m in
    let at = record_at m r + 12 in
    let k : length (floats_at n s at) ≤ 4096 = rw (length_floats n s at) h in
    rw e (to_z-of_z (norm-fits levels (midpoints_of levels) (formula g).count (floats_at n s at) g.1 k))
