use mathlib.Core.Path.{◌≡◌, ◌∙◌}
use borrow.Author.Tests.{eq-eqb, ne_eqb}
use lib.ListN.{length}
use lib.Ieee.{eq, of_bits, binary32}
use lib.Ieee.Scale.{finite}
use Rattle.std.proofs.Common.{rules, tests}
use Rattle.std.proofs.lemmas.Iterator.{YieldsList-from_slice}
use Rattle.std.proofs.lemmas.Iterator.Search.{all_from_yields_List}
use Rattle.std.specs.Float.{float_is_finite}
use Rattle.config.specs.Vector.{finites, all_zero, valid_vector}
use Rattle.config.proofs.Vectors.{is_finite, all_ext}
use Rattle.config.proofs.validate_vector.Goals as goal

pub returns-then-vector-dimensions : goal.returns-then-vector-dimensions
unfolding valid_vector
returns-then-vector-dimensions c = rw (ne_eqb (length c.args.vector.now) c.args.dimensions c.if-vector-dimensions.true)

pub returns : goal.returns
unfolding valid_vector of_bits
returns c =
    let v = c.args.vector.now in
    let finite_all : c.all-finite.result ≡ finites v =
    all_from_yields_List float_is_finite _ _ c.all-finite.result c.all-finite.ensures.ran (YieldsList-from_slice v cc) (λ x b q k. search (rules, tests))
    ∙ all_ext float_is_finite finite is_finite v in
    let zero_all : c.all-zero.result ≡ all_zero v =
    all_from_yields_List (λ x. eq x (of_bits binary32 0)) _ _ c.all-zero.result c.all-zero.ensures.ran (YieldsList-from_slice v cc) (λ x b q k. search (rules, tests)) in
    rw (eq-eqb (length v) c.args.dimensions c.if-vector-dimensions.false, finite_all, zero_all, c.is_cosine.ensures)
