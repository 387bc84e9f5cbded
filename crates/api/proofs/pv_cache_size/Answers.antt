use mathlib.Core.Path.{ap, ◌∙◌}
use Rattle.config.proofs.Granted.{granted-is}
use Rattle.api.proofs.pv_cache_size.Goals as goal

pub returns : goal.returns
returns c =
    let e = c.size-answer.ensures in
    let f = e.0 in
    let t = c.tell-number.ensures in
    record {
      fact = (
        t.0 ∙ ap (λ k. k.refusal.number) f,
        t.1 ∙ ap (λ k. k.refusal.place) f,
        c.unwrap_or-bytes.ensures ∙ granted-is c.size-answer.result 0 ∙ ap (λ k. k.size) f,
      );
      scratch_after = e.1;
    }
