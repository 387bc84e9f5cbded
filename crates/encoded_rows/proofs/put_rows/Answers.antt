use native.Mathlib.Omega.{arith}
use mathlib.Core.Path.{◌≡◌, refl, sym, ap, ◌∙◌}
use mathlib.Core.List.{List}
use Prim.Native.Nat.{ℕ, ◌+◌, ◌*◌, ◌≤◌, ◌<◌}
use native.Mathlib.Nat.{suc-mul}
use native.Mathlib.Numerals.{add-one}
use lib.ListN.{length, length-take, length-drop}
use Rattle.quantization.specs.View.{row_bytes}
use Rattle.quantization.specs.Encoder.{midpoints_of}
use Rattle.format.specs.Fields.{rows_of}
use Rattle.format.proofs.First.{each_passes}
use Rattle.entries.proofs.Entries.{entry_keeps}
use Rattle.segment.specs.Record.{record_ok}
use Rattle.segment.specs.declared.Library.{Library}
use Rattle.encoded_rows.specs.Rows.{row_of}
use Rattle.encoded_rows.proofs.Written.{length_own}
use Rattle.le.proofs.Joined.{part-ends, store_none, part_turn, length_stored}
use Rattle.encoded_rows.proofs.put_rows.Goals as goal

-- the row's part lies in the cache
lies : (x : Library) (row from at size n : ℕ) → row < x.manifest.layout.rows → from ≡ at + row * size → at + rows_of x.manifest.bytes.now * size ≤ n
    → (row < rows_of x.manifest.bytes.now) × (from + size ≤ n)
lies x row from at size n h e f =
    let k : row < rows_of x.manifest.bytes.now = rw x.manifest.laid_out.rows at h in
    let p = part-ends row size (rows_of x.manifest.bytes.now) k in
    (k, omega (arith, p, e, f))

pub loop-row-init : goal.loop-row-init
loop-row-init c =
    let x = c.args.library.now in
    let l = c.args.encoder.now.levels in
    record {
      from = omega arith;
      length = refl;
      written = store_none (λ r. row_bytes (row_of l (midpoints_of l) x.manifest.bytes.now x.segments.now r)) c.args.cache.now c.args.at;
    }

pub put_row-requires : goal.put_row-requires
put_row-requires c =
    let L = c.loop-row in
    let x = c.args.library.now in
    let m = x.manifest.bytes.now in
    let e = c.records-records.ensures in
    let h = lies x L.row L.from c.args.at c.args.size (length c.args.cache.now) c.loop-row-test.true L.invariant.from c.requires.2 in
    rw (e.1, e.0, e.2) (
      c.loop-row-test.true,
      entry_keeps m L.row x.rows h.0,
      each_passes (record_ok m x.segments.now) (rows_of m) L.row c.requires.0 h.0,
      simp (length-take, length-drop) (omega (arith, h.1, L.invariant.length, c.requires.1)),
    )

pub loop-row-preserved : goal.loop-row-preserved
loop-row-preserved c =
    let L = c.loop-row in
    let x = c.args.library.now in
    let m = x.manifest.bytes.now in
    let s = x.segments.now in
    let l = c.args.encoder.now.levels in
    let e = c.records-records.ensures in
    let own : ℕ → List ℕ = λ r. row_bytes (row_of l (midpoints_of l) m s r) in
    let o : (r : ℕ) → length (own r) ≡ c.args.size = λ r. length_own l (midpoints_of l) m s r ∙ sym c.requires.1 in
    let d = c.args.cache.now in
    let h = lies x L.row L.from c.args.at c.args.size (length c.args.cache.now) c.loop-row-test.true L.invariant.from c.requires.2 in
    let k : (L.row + 1) * c.args.size ≡ L.row * c.args.size + c.args.size = rw (add-one L.row) (suc-mul L.row c.args.size) in
    let q = part_turn own c.args.size o d c.args.at L.row L.invariant.written (rw (e.0, e.2) at c.put_row.ensures) L.invariant.from refl (omega (arith, h.1)) in
    record {
      from = omega (arith, k, L.invariant.from);
      length = ap length q ∙ length_stored own c.args.size o d c.args.at (L.row + 1) (omega (arith, h.1, k, L.invariant.from));
      written = q;
    }
