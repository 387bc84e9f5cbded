use mathlib.Core.Path.{ap, ◌∙◌}
use Rattle.config.specs.Told.{found}
use Rattle.format.specs.Fields.{rows_of}
use Rattle.entries.specs.Plan.{entry_ok}
use Rattle.format.proofs.First.{next-first}
use Rattle.entries.proofs.bad_entry.Goals as goal

pub returns : goal.returns
returns c = let m = c.args.m.bytes.now in c.bad_entry_from.ensures ∙ ap (found (rows_of m)) (next-first (entry_ok m) (rows_of m))
