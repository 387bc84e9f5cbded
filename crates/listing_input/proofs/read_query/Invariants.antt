use Rattle.std.proofs.Common.{◌≡◌, take, drop, ◌++◌}
use Rattle.listing_input.specs.Parts.{query_of}
use Rattle.listing_input.proofs.read_query.Given as goal

abbrev pub invariant-loop-i : goal.invariant-loop-i
invariant-loop-i l = l.out ≡ take l.i (query_of l.query) ++ drop l.i l.initial.out
