use mathlib.Core.Path.{ap, ◌∙◌}
use Rattle.config.specs.Told.{granted}
use Rattle.format.specs.declared.Head.{Head}
use Rattle.quantized_cache.specs.declared.CacheState.{CacheState}
use Rattle.api_state.specs.Bytes.{bytes_of_cache, cache_in}
use Rattle.config.proofs.Granted.{granted-is}
use Rattle.api.proofs.pv_cache_open.Goals as goal

-- the state of no head
abbrev nothing : Head → CacheState
nothing h = record { head = h; cache = 0 }

pub returns : goal.returns
returns c =
    let e = c.open-answer.ensures in
    let f = e.0 in
    let t = c.tell-number.ensures in
    let p = c.put_cache.ensures in
    let s =
    c.unwrap_or.ensures ∙ granted-is c.open-answer.result (nothing c.zero_head.result) ∙ ap (λ (h : Head). granted (nothing h) c.open-answer.result) c.zero_head.ensures
    ∙ ap (λ k. k.state) f in
    record {
      fact = (t.0 ∙ ap (λ k. k.refusal.number) f, t.1 ∙ ap (λ k. k.refusal.place) f, p.0 ∙ ap bytes_of_cache s, ap cache_in p.0 ∙ p.1 ∙ s);
      scratch_after = e.1;
    }
