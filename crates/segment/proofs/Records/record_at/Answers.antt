use native.Mathlib.Omega.{arith}
use mathlib.Core.Path.{◌≡◌, ap}
use mathlib.Core.Bool.{true}
use Prim.Native.Nat.{ℕ}
use lib.ListN.{get_or}
use Rattle.format.specs.Fields.{segment_at}
use Rattle.entries.specs.Plan.{entry_ok}
use Rattle.entries.specs.declared.Entry.{Entry}
use Rattle.entries.proofs.Entries.{Entered, entered_by}
use Rattle.segment.specs.Record.{start_of, record_at}
use Rattle.segment.specs.declared.Records.{Records}
use Rattle.segment.proofs.Places.{start_bound, start-at}
use Rattle.segment.proofs.Records.record_at.Goals as goal

-- the entry's rules, and where its segment begins
entry_rules : (x : Records) (r : ℕ) → entry_ok x.manifest.bytes.now r ≡ true → Entered x.manifest.bytes.now r
entry_rules x r h = entered_by x.manifest.bytes.now r x.lengths h

start_is : (x : Records) (r : ℕ) → entry_ok x.manifest.bytes.now r ≡ true
    → get_or x.starts.now (segment_at x.manifest.bytes.now r) 0 ≡ start_of x.manifest.bytes.now (segment_at x.manifest.bytes.now r)
start_is x r h =
    let m = x.manifest.bytes.now in start-at m x.placed (segment_at m r) (let k = (entry_rules x r h).segment in omega (arith, k))

pub bounds-self-e : goal.bounds-self-e
bounds-self-e c =
    let x = c.args.self.now in
    let s : c.read_entry-e.result.segment ≡ segment_at x.manifest.bytes.now c.args.row = ap (λ (e : Entry). e.segment) c.read_entry-e.ensures in
    let r = entry_rules x c.args.row c.requires.1 in
    omega (arith, s, r.segment, x.manifest.laid_out.few)

pub overflow_add-result : goal.overflow_add-result
overflow_add-result c =
    let x = c.args.self.now in
    let m = x.manifest.bytes.now in
    let r = entry_rules x c.args.row c.requires.1 in
    let q = start_bound m x.lengths (segment_at m c.args.row) (omega (arith, r.segment)) in
    rw (c.read_entry-e.ensures, start_is x c.args.row c.requires.1) (omega (arith, q, r.segment, r.end, r.bound, x.manifest.laid_out.few))

pub returns : goal.returns
unfolding record_at
returns c = rw (c.read_entry-e.ensures, start_is c.args.self.now c.args.row c.requires.1)
