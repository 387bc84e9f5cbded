use native.Mathlib.Omega.{arith}
use mathlib.Core.Path.{◌≡◌, ap}
use mathlib.Core.Bool.{true}
use Prim.Native.Nat.{ℕ, ◌+◌, ◌*◌, ◌≤◌}
use lib.ListN.{length}
use borrow.Author.Tests.{le-leb, lt-leb}
use Rattle.format.specs.Fields.{metadata_at, record_length}
use Rattle.entries.specs.Entry.{entry_at}
use Rattle.entries.specs.Plan.{entry_ok}
use Rattle.entries.specs.declared.Entry.{Entry}
use Rattle.segment.specs.Record.{record_at, record_ok}
use Rattle.segment.specs.declared.Records.{Records}
use Rattle.segment.proofs.Places.{record_bound}
use Rattle.segment.proofs.Records.record_holds.Goals as goal

-- what is read of the entry, and how far the record may reach
read : (x : Records) (r : ℕ) (e : Entry) (at : ℕ) → entry_ok x.manifest.bytes.now r ≡ true → e ≡ entry_at x.manifest.bytes.now r → at ≡ record_at x.manifest.bytes.now r
    → (at + (12 + 4 * x.manifest.layout.dimensions + e.metadata) ≡ record_at x.manifest.bytes.now r + record_length x.manifest.bytes.now r)
    × (record_at x.manifest.bytes.now r + record_length x.manifest.bytes.now r ≤ 1024 * 67108864)
unfolding record_length
read x r e at h p q =
    let k : e.metadata ≡ metadata_at x.manifest.bytes.now r = ap (λ (f : Entry). f.metadata) p in
    (omega (arith, k, q, x.manifest.laid_out.dimensions), record_bound x.manifest.laid_out x.lengths r h)

pub overflow_add-at : goal.overflow_add-at
overflow_add-at c =
    let h = read c.args.self.now c.args.row c.read_entry-e.result c.record_at-at.result c.requires.1 c.read_entry-e.ensures c.record_at-at.ensures in
    omega (arith, h.0, h.1)

pub returns-then-self-at : goal.returns-then-self-at
unfolding record_ok
returns-then-self-at c =
    let x = c.args.self.now in
    let m = x.manifest.bytes.now in
    let h = read x c.args.row c.read_entry-e.result c.record_at-at.result c.requires.1 c.read_entry-e.ensures c.record_at-at.ensures in
    rw (lt-leb (record_at m c.args.row + record_length m c.args.row) (length x.segments.now) (rw h.0 at c.if-self-at.true))

pub returns : goal.returns
unfolding record_ok
returns c =
    let x = c.args.self.now in
    let m = x.manifest.bytes.now in
    let h = read x c.args.row c.read_entry-e.result c.record_at-at.result c.requires.1 c.read_entry-e.ensures c.record_at-at.ensures in
    let l = le-leb (record_at m c.args.row + record_length m c.args.row) (length x.segments.now) (rw h.0 at c.if-self-at.false) in
    rw (l, c.parts_hold.ensures, c.record_at-at.ensures, c.read_entry-e.ensures, x.manifest.laid_out.dimensions, x.measured)
