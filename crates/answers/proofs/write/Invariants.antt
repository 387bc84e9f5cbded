use Rattle.search_spec.specs.Lent.{answers_in, SameAnswers}
use Rattle.answers.specs.Places.{places_by}
use Rattle.answers.proofs.Places.{Written}
use Rattle.answers.proofs.write.Given as goal

abbrev pub invariant-loop-i : goal.invariant-loop-i
invariant-loop-i l =
    Written (places_by l.library.manifest.bytes.now l.keys l.listed) (answers_in l.initial.answers) l.i (answers_in l.answers) × SameAnswers l.initial.answers l.answers
