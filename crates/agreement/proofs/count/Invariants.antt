use Rattle.search_spec.specs.Lent.{wanted_of, everyone}
use Rattle.search_spec.specs.Lists.{is_eligible}
use Rattle.eligible.specs.Walk.{CursorAt, ids_of}
use Rattle.agreement.proofs.Counting.{Counting}
use Rattle.agreement.proofs.count.Given as goal

abbrev pub invariant-loop-row : goal.invariant-loop-row
invariant-loop-row l =
    let m = l.original.library.manifest.bytes.now in
    CursorAt m (ids_of (wanted_of l.wanted)) l.cursor l.row
    × Counting m l.original.library.segments.now l.original.query.coordinates.now (is_eligible (wanted_of l.wanted) everyone m) l.rs l.row l.n
