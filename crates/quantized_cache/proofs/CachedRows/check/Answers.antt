use Rattle.quantized_cache.specs.Open.{bad_row, content_refusal}
use Rattle.quantized_cache.proofs.Opens.{some_bad, none-bad}
use Rattle.quantized_cache.proofs.CachedRows.check.Goals as goal

pub returns-in-Some : goal.returns-in-Some
unfolding content_refusal
returns-in-Some c =
    let s = c.args.self in
    let p = some_bad s.rows (bad_row c.args.levels c.args.metric s.rows s.dimensions s.cache.now) c.in-Some.ensures in
    rw (p.0, p.1)

pub returns-then-not-ends_in_crc : goal.returns-then-not-ends_in_crc
unfolding content_refusal
returns-then-not-ends_in_crc c =
    let s = c.args.self in
    let e = none-bad s.rows (bad_row c.args.levels c.args.metric s.rows s.dimensions s.cache.now) (rw c.bad_row.ensures at c.in_default.not-Some) in
    rw (e, ← c.ends_in_crc.ensures, c.if-not-ends_in_crc.true)

pub returns : goal.returns
unfolding content_refusal
returns c =
    let s = c.args.self in
    let e = none-bad s.rows (bad_row c.args.levels c.args.metric s.rows s.dimensions s.cache.now) (rw c.bad_row.ensures at c.in_default.not-Some) in
    rw (e, ← c.ends_in_crc.ensures, c.if-not-ends_in_crc.false)
