use native.Mathlib.Omega.{arith}
use mathlib.Core.Path.{◌≡◌}
use mathlib.Core.Bool.{true}
use Prim.Native.Nat.{ℕ, ◌+◌, ◌*◌, ◌≤◌}
use Rattle.format.specs.Fields.{dimensions_of, record_length}
use Rattle.entries.specs.Plan.{entry_ok}
use Rattle.segment.specs.Record.{record_at}
use Rattle.segment.specs.declared.Records.{Records}
use Rattle.segment.proofs.Places.{record_bound}
use Rattle.segment.proofs.Records.metadata_start.Goals as goal

-- the metadata begin in the record
low : (x : Records) (r : ℕ) → entry_ok x.manifest.bytes.now r ≡ true
    → record_at x.manifest.bytes.now r + 12 + 4 * dimensions_of x.manifest.bytes.now ≤ 1024 * 67108864
unfolding record_length
low x r h = let b = record_bound x.manifest.laid_out x.lengths r h in omega (arith, b)

pub overflow_add-result : goal.overflow_add-result
overflow_add-result c = let h = low c.args.self.now c.args.row c.requires.1 in omega (arith, h, c.record_at.ensures)

pub overflow_add-result-2 : goal.overflow_add-result-2
overflow_add-result-2 c =
    let h = low c.args.self.now c.args.row c.requires.1 in omega (arith, h, c.record_at.ensures, c.args.self.now.manifest.laid_out.dimensions)

pub returns : goal.returns
returns c = rw (c.record_at.ensures, c.args.self.now.manifest.laid_out.dimensions)
