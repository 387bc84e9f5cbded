use Rattle.format.proofs.First.{Reached}
use Rattle.quantized_cache.specs.Open.{cached_ok}
use Rattle.quantized_cache.proofs.CachedRows.bad_row.Given as goal

abbrev pub invariant-loop-row : goal.invariant-loop-row
invariant-loop-row l =
    let s = l.self in Reached (cached_ok l.levels l.metric s.rows s.dimensions s.cache.now) s.rows l.row
