use mathlib.Core.Path.{sym, ap, ◌∙◌}
use Rattle.std.specs.Prelude.{Ok, Err}
use Rattle.text.proofs.Puts.{put_same}
use Rattle.listing_input.specs.Files.{files_of}
use Rattle.listing_input.specs.declared.InputError.TheVariants.{TooLong, BadInput}
use Rattle.listing.specs.Output.{list_answer}
use Rattle.listing.proofs.Answers.{output-is}
use Rattle.listing.proofs.list.Goals as goal

pub returns-in-Err-TooLong-clause-put : goal.returns-in-Err-TooLong-clause-put
returns-in-Err-TooLong-clause-put c =
    let e = rw (c.in-Err-TooLong.is, c.in-Err-TooLong.field-0-is) at c.check_input.ensures in
    put_same (output-is (files_of c.args.files.now) (Err TooLong) e) c.alone.ensures.put

pub returns-in-Err-BadInput-clause-put : goal.returns-in-Err-BadInput-clause-put
returns-in-Err-BadInput-clause-put c =
    let e = rw (c.in-Err-BadInput.is, c.in-Err-BadInput.field-0-is) at c.check_input.ensures in
    put_same (output-is (files_of c.args.files.now) (Err BadInput) e) c.alone-in-Err-BadInput.ensures.put

pub returns-in-Ok-clause-put : goal.returns-in-Ok-clause-put
returns-in-Ok-clause-put c =
    let f = files_of c.args.files.now in
    let e = rw c.in-Ok.is at c.check_input.ensures in
    put_same (ap list_answer (sym e.1) ∙ output-is f (Ok tt) e.0) c.answer.ensures.put
