use native.Mathlib.Omega.{arith}
use mathlib.Core.Path.{◌≡◌, ◌∙◌}
use mathlib.Core.Bool.{Bool}
use mathlib.Core.List.{List, map}
use Prim.Native.Nat.{ℕ, ◌≤◌, ◌<◌}
use lib.ListN.{length, get_or}
use Rattle.format.proofs.First.{reached_turn, one_found, none_found}
use Rattle.entries.proofs.Entries.{entry_keeps}
use Rattle.manifest.specs.Scratch.{key_row}
use Rattle.segment.specs.Record.{record_ok}
use Rattle.segment.proofs.Places.{row-at}
use Rattle.segment.proofs.Library.bad_record.Goals as goal

abbrev good : List ℕ → List ℕ → List ℕ → ℕ → Bool
good m s keys i = record_ok m s (get_or (map key_row keys) i 0)

-- what the record test has answered
said : (m s keys : List ℕ) (i : ℕ) {n t : List ℕ} {row : ℕ} {b : Bool} → n ≡ m → t ≡ s → row ≡ key_row (get_or keys i 0) → b ≡ record_ok n t row
    → b ≡ good m s keys i
said m s keys i e f g h = h ∙ rw (e, f, g, row-at keys i)

pub record_holds-requires : goal.record_holds-requires
record_holds-requires c =
    let x = c.args.self.now in
    let h : c.key_row.result < x.manifest.layout.rows = rw c.key_row.ensures (c.requires.at c.loop-i.i c.loop-i-test.true) in
    let e = c.records-records.ensures in
    rw (e.1, e.0) (h, entry_keeps x.manifest.bytes.now c.key_row.result x.rows (rw x.manifest.laid_out.rows at h))

pub returns-then-not-record_holds : goal.returns-then-not-record_holds
returns-then-not-record_holds c =
    let x = c.args.self.now in
    let e = c.records-records.ensures in
    let b = said x.manifest.bytes.now x.segments.now c.args.keys.now c.loop-i.i e.0 e.2 c.key_row.ensures c.record_holds.ensures in
    one_found c.loop-i-test.true (rw b at c.if-not-record_holds.true) c.loop-i.invariant

pub loop-i-preserved : goal.loop-i-preserved
loop-i-preserved c =
    let x = c.args.self.now in
    let e = c.records-records.ensures in
    let b = said x.manifest.bytes.now x.segments.now c.args.keys.now c.loop-i.i e.0 e.2 c.key_row.ensures c.record_holds.ensures in
    reached_turn c.loop-i-test.true (rw b at c.if-not-record_holds.false) c.loop-i.invariant

pub returns : goal.returns
returns c =
    let end : c.loop-i.i ≤ length c.args.keys.now = omega arith in
    none_found c.loop-i-test.false end c.loop-i.invariant
