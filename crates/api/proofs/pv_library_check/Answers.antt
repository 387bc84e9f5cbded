use mathlib.Core.Path.{ap, ◌∙◌}
use Rattle.config.specs.Told.{granted}
use Rattle.format.specs.declared.Head.{Head}
use Rattle.api_state.specs.Bytes.{head_bytes, head_in}
use Rattle.config.proofs.Granted.{granted-is}
use Rattle.api.proofs.pv_library_check.Goals as goal

pub returns : goal.returns
returns c =
    let e = c.check-answer.ensures in
    let f = e.0 in
    let t = c.tell-number.ensures in
    let p = c.put_head.ensures in
    let h =
    c.unwrap_or.ensures ∙ granted-is c.check-answer.result c.zero_head.result ∙ ap (λ (h : Head). granted h c.check-answer.result) c.zero_head.ensures
    ∙ ap (λ k. k.head) f in
    record {
      fact = (t.0 ∙ ap (λ k. k.refusal.number) f, t.1 ∙ ap (λ k. k.refusal.place) f, p.0 ∙ ap head_bytes h, ap head_in p.0 ∙ p.1 ∙ h);
      scratch_after = e.1;
    }
