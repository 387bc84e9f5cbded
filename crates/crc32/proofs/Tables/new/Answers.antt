use mathlib.Core.Path.{refl, ◌∙◌}
use lib.ListN.{replicate}
use Rattle.crc32.specs.Tables.{slots}
use Rattle.crc32.proofs.Tab.{filled-all}
use Rattle.crc32.proofs.Words.{begins_entries, filled_copied, filled_next}
use Rattle.crc32.proofs.Tables.new.Goals as goal

pub loop-i-init : goal.loop-i-init
loop-i-init c = filled_copied _ (replicate 2048 0) (c.copy_from_slice.ensures.after ∙ c.new-first.result.is_entries) refl

pub eight_steps-requires : goal.eight_steps-requires
eight_steps-requires c = begins_entries c.new-first.result.is_entries

pub loop-i-preserved : goal.loop-i-preserved
loop-i-preserved c = filled_next c.loop-i.invariant c.loop-i.auto.i c.loop-i-test.true c.eight_steps.ensures

pub invariant_of-result : goal.invariant_of-result
unfolding slots
invariant_of-result c = record { is_slots = filled-all c.loop-i.invariant c.loop-i-test.false }
