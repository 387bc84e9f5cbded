use mathlib.Core.Path.{ap, ◌∙◌}
use mathlib.Core.List.{List}
use Prim.Native.Nat.{◌/◌}
use native.Mathlib.Omega.{arith}
use lib.Ieee.{Float}
use lib.ListN.{length, take, length-take}
use Rattle.text.proofs.Puts.{put_same}
use Rattle.search_spec.specs.Lent.{Call}
use Rattle.search_spec.specs.Kept.{cached}
use Rattle.listing.specs.Output.{answer_text}
use Rattle.listing.proofs.Answers.{query_read, call_read}
use Rattle.listing.proofs.find.Goals as goal

pub returns : goal.returns
returns c =
    let a = c.args in
    let f = a.files.now in
    let n = length f.query.now / 4 in
    let r = c.read_query in
    let q = ap (λ (x : List Float). take n x) r.ensures ∙ query_read c.zeros-values.result f.query.now in
    let e = call_read f.manifest.now f.segments.now f.query.now f.call.now (take n r.new.out) c.u32_at-k.result c.u32_at-limit.result q c.u32_at-k.ensures c.u32_at-limit.ensures in
    let w = c.search.ensures in
    record { fact = put_same (ap (λ (x : Call). let o = cached a.state f.cache.now x in answer_text o.refusal o.report o.list) e) w.fact; prefix_len = w.prefix_len }

pub slice_bounds-search-end : goal.slice_bounds-search-end
slice_bounds-search-end c = simp length-take (omega (arith, c.read_query.auto.out, c.zeros-values.ensures, c.args.files.now.query_short))
