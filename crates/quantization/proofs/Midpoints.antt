-- The midpoints: their list, their order, the count of those not above a number, and the walk that counts.
use mathlib.Core.Path.{◌≡◌, refl, ap}
use mathlib.Core.Bool.{Bool, true, false, not, cond, true≢false}
use mathlib.Core.List.{List, [], ◌∷◌}
use Prim.Native.Nat.{ℕ, zero, suc, ◌+◌, ◌≤◌, ◌<◌}
use native.Mathlib.Omega.{arith}
use native.Mathlib.Nat.{zero-add}
use lib.Dec.{T}
use lib.ListN.{length, get_or, drop, length-drop}
use lib.Ieee.{Float, nan, inf, fin, le, is_nan}
use lib.Ieee.Bits.{is_true}
use lib.Seq.{drop-cons, get_or-drop}
use Rattle.float.specs.Order.{negative}
use Rattle.float.proofs.Within.{Within}
use Rattle.float.proofs.Bounds.{within-trans, within_of_le, le_of_within}
use Rattle.quantization.specs.Encoder.{not_above, midpoint, midpoints_from, midpoints_of}
use Rattle.quantization.specs.Walk.{Walked}

-- ---- the list
length_midpoints : (k n : ℕ) → length (midpoints_from k n) ≡ n
length_midpoints k zero = refl
length_midpoints k (suc n) = ap suc (length_midpoints (suc k) n)

from : (k n j : ℕ) → j < n → get_or (midpoints_from k n) j nan ≡ midpoint (k + j)
from k zero j h = absurd (omega arith)
from k (suc n) zero h = let e : k + 0 ≡ k = omega arith in rw e
from k (suc n) (suc j) h = let e : k + suc j ≡ suc k + j = omega arith in rw e (from (suc k) n j (omega arith))

pub levels_are : (levels : ℕ) → length (midpoints_of levels) ≡ levels
unfolding midpoints_of
levels_are levels = length_midpoints 0 levels

pub formula_at : (levels i : ℕ) → i < levels → get_or (midpoints_of levels) i nan ≡ midpoint i
unfolding midpoints_of
formula_at levels i h = let z : 0 + i ≡ i = omega arith in rw z at (from 0 levels i h)

-- ---- the order
pub rising : (k j : ℕ) → k ≤ j → Within (midpoint k) (midpoint j)
rising k j h = record { fine = tt; bound = tt; order = omega arith }

-- what is within y is not above an x that y is not above
pub le_through : (m y x : Float) → negative m ≡ false → negative y ≡ false → T (not (is_nan x)) → negative x ≡ false → Within m y → T (le y x) → le m x ≡ true
unfolding le is_nan
le_through m y nan p q n r w h = absurd n
le_through m y (inf true) p q n r w h = absurd (true≢false r)
le_through nan y (inf false) p q n r w h = absurd w.fine
le_through (inf s) y (inf false) p q n r w h = absurd w.fine
le_through (fin s m e) y (inf false) p q n r w h = refl
le_through m y (fin s a b) p q n r w h = is_true (le m (fin s a b)) (le_of_within m (fin s a b) p r (within-trans w (within_of_le y (fin s a b) q r tt h)))

-- ---- the count
bit : (b : Bool) → cond {A = ℕ} b 1 0 ≤ 1
bit true = omega arith
bit false = omega arith

pub at_most : (mids : List Float) (x : Float) → not_above mids x ≤ length mids
unfolding not_above
at_most [] x = omega arith
at_most (m ∷ mids) x = omega (arith, at_most mids x, bit (le m x))

pub none : (mids : List Float) (x : Float) → ((j : ℕ) → j < length mids → le (get_or mids j nan) x ≡ false) → not_above mids x ≡ 0
unfolding not_above
none [] x h = refl
none (m ∷ mids) x h = rw (h 0 (omega arith), none mids x (λ j l. h (suc j) (omega arith)))

-- ---- the walk over any midpoints
module _ {mids : List Float} {x : Float} where
  -- a turn
  pub walked_turn : (k : ℕ) → k < length mids → le (get_or mids k nan) x ≡ true → Walked mids x k → Walked mids x (suc k)
  unfolding not_above
  walked_turn k h e w = record { so = omega (arith, rw (drop-cons mids k nan h, e) at w.so) }

  -- it has come to k if no midpoint before k is above x
  pub walked_to : (k : ℕ) → k ≤ length mids → ((j : ℕ) → j < k → le (get_or mids j nan) x ≡ true) → Walked mids x k
  walked_to zero h a = record { so = zero-add (not_above mids x) }
  walked_to (suc k) h a = walked_turn k h (a k (omega arith)) (walked_to k (omega arith) (λ j l. a j (omega arith)))

  -- and its place is the count if all from k on are
  pub walked_done : (k : ℕ) → Walked mids x k → ((j : ℕ) → k ≤ j → j < length mids → le (get_or mids j nan) x ≡ false) → k ≡ not_above mids x
  walked_done k w b =
      omega (arith, w.so, none (drop k mids) x (λ j h. rw (get_or-drop k mids j nan) (b (k + j) (omega arith) (omega (arith, rw (length-drop k mids) at h)))))

-- of the formula's midpoints it has passed all
pub walked_all : (levels : ℕ) {x : Float} {k : ℕ} → Walked (midpoints_of levels) x k → levels ≤ k → k ≡ not_above (midpoints_of levels) x
walked_all levels {k = k} w h = walked_done k w (λ j l m. absurd (omega (arith, rw (levels_are levels) at m)))
