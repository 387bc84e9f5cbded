use mathlib.Core.Path.{◌≡◌, sym, ◌∙◌}
use mathlib.Core.List.{append-nil}
use Prim.Native.Nat.{◌≤◌}
use native.Mathlib.Nat.{mul-le-mul}
use native.Mathlib.Omega.{arith}
use borrow.Author.Rules.{rules}
use lib.ListN.{length, drop_of_length-le}
use Rattle.config.proofs.Coordinates.{valid_parts}
use Rattle.quantization.specs.Encoder.{midpoints_of}
use Rattle.quantization.proofs.Midpoints.{levels_are}
use Rattle.quantization.proofs.Encoded.{norm-most, code-at}
use Rattle.vectors_quantization.proofs.approximate_line.Goals as goal

pub encode_query-query-requires : goal.encode_query-query-requires
encode_query-query-requires c =
    record { v_len_bound = search rules; v_value = (valid_parts c.args.metric 43 c.args.q.now (sym c.validate_vector.ensures ∙ c.if-validate_vector.true)).1 }

pub answer-requires : goal.answer-requires
answer-requires c =
    let v = c.args.q.now in
    let l = c.args.encoder.now.levels in
    let g = c.args.encoder.now.counted in
    let e = c.encode_query-query.ensures in
    let n : length v ≡ 43 = omega arith in
    let few : length v ≤ 43 = omega arith in
    let m : length c.args.codes.now ≡ 43 = omega arith in
    (rw e.2 (omega (arith, norm-most l (midpoints_of l) (levels_are l) v, mul-le-mul (mul-le-mul g.1 g.1) few)), rw (e.0, drop_of_length-le c.args.codes.now {i = length v} (omega arith), append-nil) (record { at = λ k. omega (arith, code-at l (midpoints_of l) (levels_are l) v k, g.1) }))
