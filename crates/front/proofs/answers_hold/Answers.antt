use Rattle.std.proofs.Common.{refl}
use Rattle.front.proofs.answers_hold.Goals as goal

pub returns : goal.returns
returns c = refl
