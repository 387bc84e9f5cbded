use Rattle.api_answers.specs.Numbers.{report_numbers}
use Rattle.api_answers.proofs.Flags.{bool_number}
use Rattle.api_answers.proofs.report_numbers.Goals as goal

pub returns : goal.returns
unfolding report_numbers
returns c =
    let r = c.args.report in
    rw (bool_number r.complete, bool_number r.approximate)
