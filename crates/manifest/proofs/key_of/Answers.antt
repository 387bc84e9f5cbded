use native.Mathlib.Omega.{arith}
use mathlib.Core.Path.{◌≡◌, ap}
use mathlib.Core.Bool.{true}
use Prim.Native.Nat.{ℕ, ◌<◌}
use Rattle.format.specs.declared.Manifest.{Manifest}
use Rattle.entries.specs.Plan.{rows_ok}
use Rattle.entries.specs.declared.Entry.{Entry}
use Rattle.format.specs.Fields.{segment_at, offset_at}
use Rattle.entries.proofs.Entries.{Entered, entered}
use Rattle.manifest.specs.Scratch.{key}
use Rattle.manifest.proofs.key_of.Goals as goal

pub returns : goal.returns
unfolding key
returns c = rw c.read_entry-e.ensures

-- the entry's rules bound its segment and offset
entry_rules : (m : Manifest) (r : ℕ) → r < m.layout.rows → rows_ok m.bytes.now ≡ true → Entered m.bytes.now r
entry_rules m r h ok = entered m.bytes.now r ok (rw m.laid_out.rows at h)

pub overflow_mul-result-2 : goal.overflow_mul-result-2
overflow_mul-result-2 c =
    let r = entry_rules c.args.m c.args.row c.requires.0 c.requires.1 in
    let s : c.read_entry-e.result.segment ≡ segment_at c.args.m.bytes.now c.args.row = ap (λ (e : Entry). e.segment) c.read_entry-e.ensures in
    let o : c.read_entry-e.result.offset ≡ offset_at c.args.m.bytes.now c.args.row = ap (λ (e : Entry). e.offset) c.read_entry-e.ensures in
    let l = c.args.m.laid_out in
    omega (arith, s, o, r.segment, r.end, r.bound, l.few)

pub overflow_add-result-2 : goal.overflow_add-result-2
overflow_add-result-2 c =
    let r = entry_rules c.args.m c.args.row c.requires.0 c.requires.1 in
    let s : c.read_entry-e.result.segment ≡ segment_at c.args.m.bytes.now c.args.row = ap (λ (e : Entry). e.segment) c.read_entry-e.ensures in
    let o : c.read_entry-e.result.offset ≡ offset_at c.args.m.bytes.now c.args.row = ap (λ (e : Entry). e.offset) c.read_entry-e.ensures in
    let l = c.args.m.laid_out in
    omega (arith, s, o, r.segment, r.end, r.bound, l.few, l.most, l.rows, c.requires.0)
