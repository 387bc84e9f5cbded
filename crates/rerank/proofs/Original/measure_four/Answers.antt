use native.Mathlib.Omega.{arith}
use mathlib.Core.Path.{◌≡◌, sym, ◌∙◌}
use Rattle.rerank.proofs.Records.{four_pass}
use Rattle.rerank.proofs.Original.measure_four.Goals as goal

pub returns-then-four_finite : goal.returns-then-four_finite
returns-then-four_finite c =
    let o = c.args.self.now in
    let h = sym c.four_hold.ensures ∙ c.if-not-four_hold.false in
    let f = sym c.four_finite.ensures ∙ c.if-four_finite.true in
    let t = rw c.distances_four-x.ensures at f in
    record {
      room = λ e. omega (arith, c.if-rs-i-lt4.false, c.requires.1);
      passed = λ e. four_pass o.library.manifest.bytes.now o.library.segments.now o.query.coordinates.now c.args.rs.now c.args.i h t;
      values = λ {x} e. let s : x ≡ c.distances_four-x.result = cc in rw s (c.distances_four-x.ensures, f);
    }
