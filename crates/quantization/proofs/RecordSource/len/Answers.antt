use mathlib.Core.Path.{sym}
use Rattle.config.proofs.Vectors.{length_patterns}
use Rattle.quantization.proofs.RecordSource.len.Goals as goal

pub returns : goal.returns
returns c = let r = c.args.self.now in sym (length_patterns r.n r.bytes.now r.at)
