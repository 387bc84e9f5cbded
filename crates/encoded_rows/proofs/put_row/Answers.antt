use native.Mathlib.Omega.{arith}
use mathlib.Core.Path.{◌≡◌}
use mathlib.Core.Bool.{true}
use mathlib.Core.List.{List}
use Prim.Native.Nat.{ℕ, ◌+◌, ◌-◌, ◌*◌, ◌≤◌}
use lib.ListN.{length}
use Rattle.config.specs.Vector.{finites, floats_at}
use Rattle.format.specs.Fields.{dimensions_of}
use Rattle.segment.specs.Record.{record_at, record_ok}
use Rattle.segment.proofs.RecordLaws.{good}
use Rattle.encoded_rows.proofs.put_row.Goals as goal

-- the record's coordinates lie in the slice, and are finite
coordinates : (m s : List ℕ) (row : ℕ) {at : ℕ} → record_ok m s row ≡ true → at ≡ record_at m row
    → (at + 12 + 4 * dimensions_of m ≤ length s) × (finites (floats_at (dimensions_of m) s (at + 12)) ≡ true)
coordinates m s row k e = let g = good m s row k in rw e (g.inside, g.fine)

pub overflow_add-at : goal.overflow_add-at
overflow_add-at c =
    let x = c.args.records.now in
    let h = (coordinates x.manifest.bytes.now x.segments.now c.args.row c.requires.2 c.record_at-at.ensures).0 in omega (arith, h)

pub encode_row-requires : goal.encode_row-requires
encode_row-requires c =
    let x = c.args.records.now in
    let m = x.manifest.bytes.now in
    let h = coordinates m x.segments.now c.args.row c.requires.2 c.record_at-at.ensures in
    let e = c.requires.3 in
    let n : length c.args.part.now - 16 ≡ dimensions_of m = omega (arith, e) in
    record { in_bounds = (omega (arith, e), omega (arith, e, x.manifest.laid_out.high), rw n h.0); at_value = rw n h.1 }

pub returns : goal.returns
returns c =
    let n : length c.args.part.now - 16 ≡ dimensions_of c.args.records.now.manifest.bytes.now = omega (arith, c.requires.3) in
    rw (n, c.record_at-at.ensures) at c.encode_row.ensures.0
