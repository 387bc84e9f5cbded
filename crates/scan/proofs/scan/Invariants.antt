use mathlib.Core.Path.{◌≡◌}
use Prim.Native.Nat.{◌-◌, ◌≤◌}
use lib.ListN.{length}
use Rattle.rank.specs.Rows.{passing}
use Rattle.row.specs.Answer.{view_of}
use Rattle.search_spec.specs.Lent.{wanted_of, everyone}
use Rattle.search_spec.specs.Lists.{is_eligible}
use Rattle.eligible.specs.Walk.{CursorAt, ids_of}
use Rattle.scan.specs.Far.{Limits}
use Rattle.scan.proofs.ScanLaws.{Scanning}
use Rattle.scan.proofs.scan.Given as goal

abbrev pub invariant-loop-row : goal.invariant-loop-row
invariant-loop-row g l =
    let m = l.table.manifest.bytes.now in
    let w = wanted_of l.wanted in
    let a = l.against in
    let q = a.query.row in
    (l.row ≤ l.end) × CursorAt m (ids_of w) l.cursor l.row
    × Scanning a.levels m (is_eligible w everyone m) (g.R.Rows.at l.rows) (view_of q.scale q.norm a.codes.now) (length l.initial.ks) l.row l.ks l.rs l.count l.top
    × Limits a.metric q.norm l.top l.far × (l.eligible ≡ length (passing (is_eligible w everyone m) l.row))

abbrev pub decreases-loop-row : goal.decreases-loop-row
decreases-loop-row g l = l.end - l.row
