use mathlib.Core.Path.{ap, ◌∙◌}
use lib.ListN.{length}
use Rattle.le.proofs.Pastes.{length_paste}
use Rattle.text.proofs.Puts.{put_copied}
use Rattle.text.proofs.Writer.put_bytes.Goals as goal

pub returns-clause-wrote : goal.returns-clause-wrote
returns-clause-wrote c =
    let s = c.args.self.now in
    let p = put_copied s.out.now c.copy_from_slice.new.self c.args.word.now s.at c.requires c.copy_from_slice.ensures.after in
    record { put = p; size = ap length p.is ∙ length_paste s.out.now c.args.word.now s.at c.requires }
