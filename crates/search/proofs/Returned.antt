-- What an entry returns of a call.
use Rattle.search_spec.specs.Outcome.{Searched, Agreed}
use Rattle.answers.specs.Report.{AnswerOutcome}

abbrev pub searched_of : AnswerOutcome → Searched
searched_of a = record { refusal = a.refusal; report = a.report }

abbrev pub agreed_of : AnswerOutcome → Agreed
agreed_of a = record { refusal = a.refusal; agreement = a.agreement }
