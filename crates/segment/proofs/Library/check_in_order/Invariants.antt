use Prim.Native.Nat.{◌≤◌}
use lib.ListN.{length}
use Rattle.format.specs.Fields.{segments_of}
use Rattle.format.proofs.First.{Reached}
use Rattle.format.proofs.Refusals.{passes}
use Rattle.manifest.proofs.Parts.{Held}
use Rattle.segment.specs.Check.{segment_refusal}
use Rattle.segment.proofs.Library.check_in_order.Given as goal

abbrev pub invariant-loop-n : goal.invariant-loop-n
invariant-loop-n l =
    let m = l.self.manifest.bytes.now in
    record { within : l.i ≤ length l.keys; rest : Held m l.keys l.i l.n; passed : Reached (passes (segment_refusal m l.self.segments.now)) (segments_of m) l.n }
