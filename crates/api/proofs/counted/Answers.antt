use mathlib.Core.Path.{ap, ◌∙◌}
use borrow.Author.Rules.{rules}
use Rattle.config.proofs.Granted.{granted-is}
use Rattle.api.proofs.Slices.{answers_end, work_end}
use Rattle.api.proofs.counted.Goals as goal

pub returns : goal.returns
returns g c =
    let e = c.agreement-answer.ensures.fact in
    let t = c.tell-number.ensures in (
      t.0 ∙ ap (λ s. s.refusal.number) e.0,
      t.1 ∙ ap (λ s. s.refusal.place) e.0,
      c.unwrap_or-count.ensures ∙ granted-is c.agreement-answer.result 0 ∙ ap (λ s. s.agreement) e.0,
      answers_end e.1 (search rules) (search rules) (search rules) (search rules) (search rules),
      work_end e.2 (search rules) (search rules) (search rules),
    )
