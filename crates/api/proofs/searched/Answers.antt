use mathlib.Core.Path.{ap, ◌∙◌}
use borrow.Author.Rules.{rules}
use Rattle.search_spec.specs.Outcome.{no_report}
use Rattle.api_answers.specs.Numbers.{report_numbers}
use Rattle.config.proofs.Granted.{granted-is}
use Rattle.api.proofs.Slices.{answers_end, work_end}
use Rattle.api.proofs.searched.Goals as goal

pub returns : goal.returns
returns g c =
    let e = c.search-answer.ensures.fact in
    let t = c.tell-number.ensures in (
      t.0 ∙ ap (λ s. s.refusal.number) e.0,
      t.1 ∙ ap (λ s. s.refusal.place) e.0,
      c.report_numbers.ensures ∙ ap report_numbers (c.unwrap_or.ensures ∙ granted-is c.search-answer.result no_report ∙ ap (λ s. s.report) e.0),
      answers_end e.1 (search rules) (search rules) (search rules) (search rules) (search rules),
      work_end e.2 (search rules) (search rules) (search rules),
    )
