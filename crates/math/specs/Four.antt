-- Four distances in one call (document 01, The arithmetic: "four distances in one call, as `distance_four` gives them,
-- equal to four original distances").
use Rattle.std.specs.Prelude.{Bool, cond, ◌&&◌, List, [], ◌∷◌, length, nat_le, Float, Result}
use Rattle.float.specs.Values.{plus_zero, quad}
use Rattle.config.specs.Limits.{max_dimensions}
use Rattle.config.specs.Refusal.{Refusal, none, refused}
use Rattle.config.specs.Told.{numbered, granted}
use Rattle.config.specs.declared.Number.{Number}
use Rattle.config.specs.Vector.{valid_vector}
use Rattle.config.specs.declared.Metric.{Metric}
use Rattle.math.specs.Distance.{original}

-- "equal to four original distances"
abbrev pub original_four : Metric → List Float → List Float → List Float → List Float → List Float → List Float
original_four metric q a b c d = original metric q a ∷ original metric q b ∷ original metric q c ∷ original metric q d ∷ []

-- Document 01, The arithmetic: "all five vectors have one length of 1 to 4096 and pass 16's other tests"
unfoldable pub valid_five : Metric → List Float → List Float → List Float → List Float → List Float → Bool
valid_five metric q a b c d =
    let n = length q in
    nat_le 1 n && nat_le n max_dimensions && valid_vector metric n q && valid_vector metric n a && valid_vector metric n b && valid_vector metric n c && valid_vector metric n d

-- a refusal, and four distances
pub record Four : Type 0 where
  pub refusal : Refusal
  pub distances : List Float

-- what the code answers
abbrev pub four_outcome : Result (List Float) Number → Four
four_outcome r = record { refusal = refused (numbered r) 0; distances = granted (quad (λ k. plus_zero)) r }

-- Document 01, The arithmetic: "It gives 16 and four +0 unless" they do; place 0 (What each place turns away)
unfoldable pub distance_four : Metric → List Float → List Float → List Float → List Float → List Float → Four
distance_four metric q a b c d =
    cond (valid_five metric q a b c d) (record { refusal = none; distances = original_four metric q a b c d }) (record { refusal = refused 16 0; distances = quad (λ k. plus_zero) })
