use mathlib.Core.Path.{sym, ◌∙◌}
use mathlib.Core.List.{map-id}
use lib.ListN.{length}
use Rattle.config.specs.Vector.{floats_at}
use Rattle.config.proofs.Vectors.{length_patterns}
use Rattle.quantization.specs.Encoder.{encode, midpoints_of}
use Rattle.quantization.proofs.Encoder.encode_resident.Goals as goal

pub encode-requires-clause-lengths : goal.encode-requires-clause-lengths
encode-requires-clause-lengths c = let a = c.args in (sym (length_patterns (length a.out.now) a.s.now a.at), c.requires.out_len_bound.0)

pub returns : goal.returns
returns c =
    let a = c.args in
    let w = c.encode.ensures in
    (w.0 ∙ map-id (encode a.self.now.levels (midpoints_of a.self.now.levels) (floats_at (length a.out.now) a.s.now a.at)).codes, w.1, w.2)
