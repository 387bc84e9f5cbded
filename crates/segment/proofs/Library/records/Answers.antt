use Rattle.entries.proofs.Entries.{lengths_of}
use Rattle.segment.proofs.Library.records.Goals as goal

pub invariant_of-result-clause-lengths : goal.invariant_of-result-clause-lengths
invariant_of-result-clause-lengths c = let x = c.args.self.now in lengths_of x.manifest.bytes.now x.rows
