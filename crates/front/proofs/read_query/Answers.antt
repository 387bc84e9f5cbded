use Rattle.std.proofs.Common.{◌≡◌, ◌≤◌, ℕ, List, refl, arith, take, length}
use native.Mathlib.Nat.{mul-le-mul}
use lib.IntN.{nat_abs}
use lib.Ieee.{Float}
use lib.Seq.{take_at}
use Rattle.codes.specs.Codes.{Small}
use Rattle.quantization.specs.Encoder.{Levels, encode, midpoints_of}
use Rattle.quantization.proofs.Midpoints.{levels_are}
use Rattle.quantization.proofs.Encoded.{encoded_length, code-at, norm-most}
use Rattle.search_spec.specs.Lists.{encoded}
use Rattle.front.proofs.read_query.Goals as goal

module _ {levels : ℕ} (g : Levels levels) (query : List Float) where
  codes_small : Small (encode levels (midpoints_of levels) query).codes
  codes_small = record { at = λ k. omega (arith, code-at levels (midpoints_of levels) (levels_are levels) query k) }

  norm_low : length query ≤ 4096 → nat_abs (encode levels (midpoints_of levels) query).norm ≤ 9007199254740992
  norm_low h = omega (arith, norm-most levels (midpoints_of levels) (levels_are levels) query, mul-le-mul (mul-le-mul g.1 g.1) h)

pub new-requires-2 : goal.new-requires-2
new-requires-2 c =
    let w = rw c.new.ensures at c.encode_query-row.ensures in
    rw w.2 (norm_low c.requires.query.0 c.args.query.now c.requires.query.1)

pub returns : goal.returns
unfolding encoded
returns c =
    let a = c.args in
    let q = a.query.now in
    let e = c.encode_query-row in
    let w = rw c.new.ensures at e.ensures in
    let r = encode a.levels (midpoints_of a.levels) q in
    let codes : take (length q) e.new.out ≡ r.codes = rw w.0 (take_at r.codes _ (length q) (encoded_length a.levels (midpoints_of a.levels) q)) in
    let wide : take (length q) c.widen.new.out ≡ q = rw c.widen.ensures (take_at q _ (length q) refl) in
    record {
      view = rw (c.new-2.ensures, w.1, w.2, codes);
      small = rw codes (codes_small c.requires.query.0 q);
      same = wide;
      inverse = rw wide at c.inverse_norm.ensures;
    }
