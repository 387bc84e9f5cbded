use mathlib.Core.Path.{ap, ◌∙◌}
use mathlib.Core.List.{◌++◌, map-id}
use lib.ListN.{length, drop}
use lib.Ieee.{nan, binary32, fits}
use Rattle.config.proofs.Coordinates.{all_by}
use Rattle.quantization.specs.Encoder.{encode, midpoints_of}
use Rattle.quantization.proofs.Coordinates.{of_patterns}
use Rattle.quantization.proofs.Encoder.encode_query.Goals as goal

pub encode-requires-clause-finite : goal.encode-requires-clause-finite
encode-requires-clause-finite c =
    let v = c.args.v.now in
    rw (of_patterns v (all_by (fits binary32) v nan c.shared_slice_known-1.given)) c.requires.v_value

pub returns : goal.returns
returns c =
    let v = c.args.v.now in
    let w = rw (of_patterns v (all_by (fits binary32) v nan c.shared_slice_known-1.given)) at c.encode.ensures in
    (ap (λ o. o ++ drop (length v) c.args.out.now) (w.0 ∙ map-id (encode c.args.self.now.levels (midpoints_of c.args.self.now.levels) v).codes), w.1, w.2)
