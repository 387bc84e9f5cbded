use native.Mathlib.Omega.{arith}
use mathlib.Core.Path.{◌∙◌}
use Prim.Native.Nat.{◌≤◌}
use Rattle.format.proofs.First.{reached_start, reached_turn, one_found, none_found}
use Rattle.quantized_cache.specs.Open.{cached_at, cached_ok}
use Rattle.quantized_cache.proofs.Opens.{ok_row}
use Rattle.quantized_cache.proofs.CachedRows.bad_row.Goals as goal

pub loop-row-init : goal.loop-row-init
loop-row-init c =
    let s = c.args.self in reached_start (cached_ok c.args.levels c.args.metric s.rows s.dimensions s.cache.now) s.rows

pub holds-requires : goal.holds-requires
holds-requires c = (rw (c.codes.ensures.as_many) c.args.self.narrow, c.requires)

-- what the row test says
pub returns-then-not-holds : goal.returns-then-not-holds
returns-then-not-holds c =
    let s = c.args.self in
    let r = cached_at s.rows s.dimensions s.cache.now c.loop-row.row in
    let e = c.holds.ensures r.scale r.norm c.read.ensures ∙ ok_row c.args.levels c.args.metric s.rows s.dimensions s.cache.now c.loop-row.row c.codes.ensures.values in
    one_found c.loop-row-test.true (rw e at c.if-not-holds.true) c.loop-row.invariant

pub loop-row-preserved : goal.loop-row-preserved
loop-row-preserved c =
    let s = c.args.self in
    let r = cached_at s.rows s.dimensions s.cache.now c.loop-row.row in
    let e = c.holds.ensures r.scale r.norm c.read.ensures ∙ ok_row c.args.levels c.args.metric s.rows s.dimensions s.cache.now c.loop-row.row c.codes.ensures.values in
    reached_turn c.loop-row-test.true (rw e at c.if-not-holds.false) c.loop-row.invariant

pub returns : goal.returns
returns c =
    let end : c.loop-row.row ≤ c.args.self.rows = omega arith in none_found c.loop-row-test.false end c.loop-row.invariant
