-- Between functions: what they promise one another. No contract of an entry and no theorem rests on this file.
-- A distance that is finite and above a bound, of the metrics whose distance needs no root.
use Rattle.std.specs.Prelude.{Bool, false, ◌&&◌, Float}
use Rattle.std.specs.Float.Ieee.{lt}
use Rattle.std.specs.Float.Ieee.Scale.{finite}
use Rattle.config.specs.declared.Metric.{Metric}
use Rattle.config.specs.declared.Metric.TheVariants.{SquaredL2, Cosine, InnerProduct}

unfoldable pub is_over : Metric → Float → Float → Bool
is_over SquaredL2 bound x = lt bound x && finite x
is_over Cosine bound x = false
is_over InnerProduct bound x = lt bound x && finite x
