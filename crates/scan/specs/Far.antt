-- Between functions: what they promise one another. No contract of an entry and no theorem rests on this file.
-- Rows that are turned away: by their distance, or under cosine without a root. What is promised of them is only that their distance is
-- finite, so that they are not refused, and has a key over that of every row that is kept.
use Rattle.std.specs.Prelude.{◌≡◌, ◌⊎◌, Bool, true, ℕ, ◌^◌, ◌<◌, ℤ, T, Float}
use Rattle.std.specs.Float.{binary64}
use Rattle.std.specs.Float.Ieee.{fits, of_int, of_bits, to_bits}
use Rattle.std.specs.Float.Ieee.Scale.{finite}
use Rattle.float.specs.Order.{key_of, bits_of}
use Rattle.root.specs.SquareRoot.{sqrt_of}
use Rattle.config.specs.Metric.{is_cosine}
use Rattle.config.specs.declared.Metric.{Metric}
use Rattle.config.specs.declared.Refused.{Refused as Why}
use Rattle.row.specs.declared.RowAnswer.{RowAnswer}
use Rattle.row.specs.declared.RowAnswer.TheVariants.{Distance, PassedOver, Refused}
use Rattle.cosine.specs.Far.{Far}

-- t is a limit for a query of this norm and the key over which none is kept
pub record Limits (metric : Metric) (norm : ℤ) (top t : ℕ) : Type 0 where
  pub far : Far (sqrt_of (of_int binary64 norm)) top t
  pub cosine : 0 < t → is_cosine metric ≡ true

-- a row's answer is a distance with a key over top
pub record Over (top : ℕ) (a : RowAnswer) : Type 0 where
  pub distance : Float
  pub is : a ≡ Distance distance
  pub over : top < key_of (to_bits binary64 distance)

-- r says of a row that it is turned away, by the number whose key none may be over or by the limit t; it is valid if v says so, and x is
-- its distance
pub record TurnedAway (norm : ℤ) (bound : Float) (t : ℕ) (v : Bool) (x : Float) (r : Bool) : Type 0 where
  pub turns : r ≡ true → (top : ℕ) → top < 2 ^ 64 → bound ≡ of_bits binary64 (bits_of top) → Far (sqrt_of (of_int binary64 norm)) top t → T (fits binary64 x)
      → (v ≡ true) × T (finite x) × (top < key_of (to_bits binary64 x))

-- r is what is said of a row whose answer is a
pub record Entered (top : ℕ) (a r : RowAnswer) : Type 0 where
  pub measured : {x : Float} → r ≡ Distance x → a ≡ Distance x
  pub refused : {f : Why} → r ≡ Refused f → a ≡ Refused f
  pub passed : r ≡ PassedOver → (a ≡ PassedOver) ⊎ Over top a
