use mathlib.Core.Path.{ap, ◌∙◌}
use Rattle.api_answers.specs.Numbers.{info_numbers}
use Rattle.prepare.specs.Prepare.{no_info}
use Rattle.config.proofs.Granted.{granted-is}
use Rattle.api.proofs.pv_cache_prepare.Goals as goal

pub returns : goal.returns
returns c =
    let e = c.prepare-answer.ensures in
    let f = e.0 in
    let t = c.tell-number.ensures in
    record {
      fact = (
        t.0 ∙ ap (λ k. k.refusal.number) f,
        t.1 ∙ ap (λ k. k.refusal.place) f,
        c.info_numbers.ensures ∙ ap info_numbers (c.unwrap_or.ensures ∙ granted-is c.prepare-answer.result no_info ∙ ap (λ k. k.info) f),
        rw (ap (λ k. k.refusal) f) at e.1,
      );
      scratch_after = e.2;
    }
