use native.Mathlib.Omega.{arith}
use mathlib.Core.List.{List, map}
use Prim.Native.Nat.{ℕ, ◌≤◌}
use lib.ListN.{length, get_or, length-map}
use borrow.Author.Tests.{eq-eqb, ne_eqb}
use Rattle.manifest.specs.Scratch.{key_row}
use Rattle.segment.specs.Record.{record_ok}
use Rattle.segment.specs.Check.{bad_record, segment_records_refusal}
use Rattle.segment.proofs.Places.{row-at}
use Rattle.segment.proofs.Found.{some_found, nothing_found}
use Rattle.format.proofs.First.{first-within}
use Rattle.segment.proofs.Library.check_segment.Goals as goal

within : (m s keys : List ℕ) → bad_record m s (map key_row keys) ≤ length keys
within m s keys =
    let w = first-within (λ i. record_ok m s (get_or (map key_row keys) i 0)) (length (map key_row keys)) in omega (arith, w, length-map keys key_row)

pub offset_bounds-keys-bad : goal.offset_bounds-keys-bad
offset_bounds-keys-bad c =
    let x = c.args.self.now in
    let b = some_found (within x.manifest.bytes.now x.segments.now c.args.keys.now) c.in-Some.ensures in omega (arith, b.0, b.1)

pub bounds-keys-bad : goal.bounds-keys-bad
bounds-keys-bad c =
    let x = c.args.self.now in
    let b = some_found (within x.manifest.bytes.now x.segments.now c.args.keys.now) c.in-Some.ensures in omega (arith, b.0, b.1)

pub returns-in-Some : goal.returns-in-Some
unfolding segment_records_refusal
returns-in-Some c =
    let m = c.args.self.now.manifest.bytes.now in
    let s = c.args.self.now.segments.now in
    let keys = c.args.keys.now in
    let bad = bad_record m s (map key_row keys) in
    let b = some_found (within m s keys) c.in-Some.ensures in
    let n = length-map keys key_row in
    rw (ne_eqb bad (length (map key_row keys)) (λ q. omega (arith, b.1, q, n)), c.key_row.ensures, b.0, row-at keys bad)

pub returns-then-not-crc_holds : goal.returns-then-not-crc_holds
unfolding segment_records_refusal
returns-then-not-crc_holds c =
    let m = c.args.self.now.manifest.bytes.now in
    let rows = map key_row c.args.keys.now in
    let n = length-map c.args.keys.now key_row in
    let b = nothing_found c.in_default.ensures in
    rw (eq-eqb (bad_record m c.args.self.now.segments.now rows) (length rows) (omega (arith, b, n)), ← c.crc_holds.ensures, c.if-not-crc_holds.true)

pub returns : goal.returns
unfolding segment_records_refusal
returns c =
    let m = c.args.self.now.manifest.bytes.now in
    let rows = map key_row c.args.keys.now in
    let n = length-map c.args.keys.now key_row in
    let b = nothing_found c.in_default.ensures in
    rw (eq-eqb (bad_record m c.args.self.now.segments.now rows) (length rows) (omega (arith, b, n)), ← c.crc_holds.ensures, c.if-not-crc_holds.false)
