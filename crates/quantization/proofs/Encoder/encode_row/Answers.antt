use mathlib.Core.Path.{◌≡◌, sym, ap, ◌∙◌}
use mathlib.Core.List.{◌++◌, append-nil}
use Prim.Native.Nat.{◌-◌, ◌+◌}
use native.Mathlib.Omega.{arith}
use lib.ListN.{length, take, drop, length-drop, drop_of_length-le}
use lib.Seq.{length-take-le}
use lib.Ieee.Positive.{positive-finite}
use mir.Syntax.{w64}
use mir.Val.{to_z, of_z}
use mir.Facts.{to_z-of_z}
use Rattle.le.specs.Le.{bytes, paste}
use Rattle.le.proofs.Pastes.{paste-part}
use Rattle.float.proofs.BitLaws.{finite_number}
use Rattle.config.specs.Vector.{floats_at}
use Rattle.config.proofs.Vectors.{length_patterns, length_floats}
use Rattle.config.proofs.Coordinates.{floats_fit}
use Rattle.quantization.specs.Encoder.{encode, midpoints_of}
use Rattle.quantization.proofs.Midpoints.{levels_are}
use Rattle.quantization.proofs.Encoded.{scale_positive, norm-fits}
use Rattle.quantization.proofs.Rows.{row_is}
use Rattle.quantization.proofs.Encoder.encode_row.Goals as goal

pub encode-row-requires-clause-lengths : goal.encode-row-requires-clause-lengths
encode-row-requires-clause-lengths c =
    let a = c.args in
    let n = length a.out.now - 16 in
    let l : length (take n (drop 16 a.out.now)) ≡ n = length-take-le n (drop 16 a.out.now) (omega (arith, length-drop 16 a.out.now)) in
    (l ∙ sym (length_patterns n a.s.now a.at), omega (arith, l, c.requires.in_bounds))

pub float_to_bits-row : goal.float_to_bits-row
float_to_bits-row c =
    let a = c.args in
    let n = length a.out.now - 16 in
    let mids = midpoints_of a.self.now.levels in
    let v = floats_at n a.s.now a.at in
    let s = (encode a.self.now.levels mids v).scale in
    rw c.encode-row.ensures.1 (finite_number s (positive-finite s (scale_positive a.self.now.counted mids v (floats_fit n a.s.now a.at) c.requires.at_value)))

pub returns : goal.returns
unfolding paste
returns c =
    let a = c.args in
    let d = a.out.now in
    let n = length d - 16 in
    let levels = a.self.now.levels in
    let mids = midpoints_of levels in
    let v = floats_at n a.s.now a.at in
    let r = encode levels mids v in
    let w = c.encode-row.ensures in
    let ys = c.encode-row.new.out in
    let few : length v ≡ n = length_floats n a.s.now a.at in
    let l : length (take n (drop 16 d)) ≡ n = length-take-le n (drop 16 d) (omega (arith, length-drop 16 d)) in
    let long : length ys ≡ n = c.encode-row.auto.out ∙ l in
    let t : to_z w64 (of_z w64 r.norm) ≡ r.norm = to_z-of_z (norm-fits levels mids (levels_are levels) v a.self.now.counted.1 (omega (arith, few, c.requires.in_bounds))) in (
      c.put_i64.ensures ∙ ap (λ x. paste x 8 (bytes 8 (of_z w64 (to_z w64 (of_z w64 c.encode-row.result.norm))))) c.put_u64.ensures
          ∙ rw (w.1, w.2, t)
          (row_is r (take 16 d) (length-take-le 16 d c.requires.in_bounds.0)
          (paste-part d 16 (length d) ys c.requires.in_bounds.0 long ∙ rw (drop_of_length-le d {i = 16 + length ys} (omega (arith, long, c.requires.in_bounds)), append-nil (take 16 d ++ ys), w.0))),
      w.1,
      w.2,
    )
