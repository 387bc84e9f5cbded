use mathlib.Core.Path.{◌≡◌}
use lib.ListN.{length}
use Rattle.rank.specs.Rows.{passing}
use Rattle.search_spec.specs.Lent.{wanted_of, everyone}
use Rattle.search_spec.specs.Lists.{is_eligible}
use Rattle.eligible.specs.Walk.{CursorAt, ids_of}
use Rattle.eligible.proofs.count.Given as goal

abbrev pub invariant-loop-row : goal.invariant-loop-row
invariant-loop-row l =
    let m = l.table.manifest.bytes.now in
    let w = wanted_of l.wanted in
    CursorAt m (ids_of w) l.cursor l.row × (l.total ≡ length (passing (is_eligible w everyone m) l.row))
