use mathlib.Core.Path.{sym}
use Rattle.config.specs.Refusal.{none}
use Rattle.config.proofs.Refusals.{none_fails, not_zero}
use Rattle.format.specs.Fields.{rows_of}
use Rattle.entries.specs.Plan.{bad_entry}
use Rattle.entries.proofs.Entries.{rows_by}
use Rattle.front.proofs.check_entries.Goals as goal

pub invariant_of-result : goal.invariant_of-result
invariant_of-result c =
    let m = c.args.m.bytes.now in
    record { rules = rows_by m c.requires (none_fails 21 (bad_entry m) (rows_of m) none not_zero (rw (sym c.in_ok-entries.ensures))).0 }
