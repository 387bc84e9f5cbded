use mathlib.Core.Path.{◌≡◌, refl, ◌∙◌}
use mathlib.Core.Bool.{and_assoc}
use lib.Dec.{eqb}
use denote.Enum.Bare.{sameb}
use Rattle.config.specs.Metric.{byte_of}
use Rattle.config.specs.contracts.Metric.{the_type}
use Rattle.config.specs.declared.Metric.{Metric}
use Rattle.config.specs.declared.Metric.TheVariants.{SquaredL2, Cosine, InnerProduct}
use Rattle.format.specs.Same.{same_fields, same_config}
use Rattle.format.proofs.same_fields.Goals as goal

-- metrics are equal where their bytes are
bytes : (a b : Metric) → sameb the_type a b ≡ eqb (byte_of a) (byte_of b)
bytes SquaredL2 SquaredL2 = refl
bytes SquaredL2 Cosine = refl
bytes SquaredL2 InnerProduct = refl
bytes Cosine SquaredL2 = refl
bytes Cosine Cosine = refl
bytes Cosine InnerProduct = refl
bytes InnerProduct SquaredL2 = refl
bytes InnerProduct Cosine = refl
bytes InnerProduct InnerProduct = refl

pub returns : goal.returns
unfolding same_fields same_config
returns c = c.eq.ensures ∙ simp (and_assoc, bytes)
