-- 1 - y, where y has no sign and is at most 1, is at most 1 - x held in 0..2, in the order of keys, where x has a sign or is at most
-- y: the roundings keep the order.
use mathlib.Core.Path.{◌≡◌, refl, ◌∙◌}
use mathlib.Core.Bool.{true, false, not, cond}
use Prim.Native.Nat.{ℕ, ◌+◌, ◌-◌, ◌*◌, ◌≤◌}
use native.Mathlib.Nat.{le_trans, le_of_eq, mul_comm, mul-one, one-mul, mul-sub, mul-le-mul, mul-le-mul_right, le_of_mul-le-mul_right}
use native.Mathlib.Omega.{arith}
use lib.Dec.{T, lit≤}
use lib.Ieee.{Float, nan, inf, fin, binary64, up, down, round, sum, sub, neg, lt, fits}
use lib.Ieee.Fits.{sub-fits, cond-fits}
use lib.Ieee.Scale.{finite}
use lib.Ieee.Positive.{num, den, den_pos}
use borrow.Author.Tests.{le-ltb}
use Rattle.le.proofs.Chain.{by}
use Rattle.float.specs.Values.{plus_zero, one, two}
use Rattle.float.specs.Hold.{clamp}
use Rattle.float.specs.Order.{negative, keyed}
use Rattle.float.proofs.Within.{Within}
use Rattle.float.proofs.Bounds.{within-trans, within_of_lt, rounded, round_sign, under, add_is}
use Rattle.float.proofs.Keys.{key-within}

-- ---- 1 - x as a rounding
minus_is : (x : Float) → T (finite x) → sub binary64 one x ≡ sum binary64 false (den x) (not (negative x)) (num x) (den x)
unfolding sub neg
minus_is nan h = absurd h
minus_is (inf s) h = absurd h
minus_is (fin s m e) h = add_is binary64 one (fin (not s) m e) tt tt ∙ rw (one-mul (down e), mul-one (m * up e))

minus_plain : (x : Float) → T (finite x) → negative x ≡ false → num x ≤ den x → sub binary64 one x ≡ round binary64 false (den x - num x) (den x)
unfolding sum
minus_plain x h p l = rw (minus_is x h, p, le-ltb (den x) (num x) l)

minus_signed : (x : Float) → T (finite x) → negative x ≡ true → sub binary64 one x ≡ round binary64 false (den x + num x) (den x)
unfolding sum
minus_signed x h p = rw (minus_is x h, p)

-- ---- the two differences
falls : (X dx Y dy : ℕ) → X * dy ≤ Y * dx → (dy - Y) * dx ≤ (dx - X) * dy
falls X dx Y dy h = rw (mul_comm (dy - Y) dx, mul_comm (dx - X) dy, mul-sub dx dy Y, mul-sub dy dx X, mul_comm dx dy, mul_comm dx Y, mul_comm dy X) (omega arith)

rises : (X dx Y dy : ℕ) → (dy - Y) * dx ≤ (dx + X) * dy
rises X dx Y dy =
    let a : dy - Y ≤ dy = omega arith in
    let b : dx ≤ dx + X = omega arith in
    le_trans (mul-le-mul a b) (le_of_eq (mul_comm dy (dx + X)))

module _ (x y : Float) (fx : T (finite x)) (fy : T (finite y)) (plain : negative y ≡ false) (most : num y ≤ den y) (less : negative x ≡ false → Within x y)
    (fz : T (finite (sub binary64 one x))) where
  abbrev u : Float
  u = sub binary64 one y

  abbrev z : Float
  z = sub binary64 one x

  u-is : u ≡ round binary64 false (den y - num y) (den y)
  u-is = minus_plain y fy plain most

  above : (n : ℕ) → z ≡ round binary64 false n (den x) → (den y - num y) * den x ≤ n * den y → (negative z ≡ false) × Within u z
  above n q h = (
    rw q (round_sign binary64 false n (den x)),
    rw (u-is, q) (rounded binary64 false false (den y - num y) (den y) n (den x) (den_pos y) (den_pos x) h (rw q at fz)),
  )

  difference : (negative z ≡ false) × Within u z
  difference =
      by (negative x)
      (λ s. above (den x + num x) (minus_signed x fx s) (rises (num x) (den x) (num y) (den y)))
      (λ s.
      let w = (less s).order in
      let k : num x ≤ den x = le_of_mul-le-mul_right (le_trans w (le_trans (mul-le-mul_right (den x) most) (le_of_eq (mul_comm (den y) (den x))))) (den_pos y) in
      above (den x - num x) (minus_plain x fx s k) (falls (num x) (den x) (num y) (den y) w))

  -- 1 - y is at most 1, so it stays below when 1 - x is held
  held : (negative (clamp plus_zero two z) ≡ false) × Within u (clamp plus_zero two z)
  unfolding clamp
  held =
      let p = difference.0 in
      let w = difference.1 in
      let a : Within u one = rw u-is (under binary64 false (den y - num y) (den y) one tt (den_pos y) (omega arith)) in
      by (lt z plus_zero)
      (λ e. rw e (refl, within-trans w (within_of_lt z plus_zero fz tt p refl e)))
      (λ e. by (lt two z) (λ g. rw (e, g) (refl, within-trans a (record { fine = tt; bound = tt; order = lit≤ tt }))) (λ g. rw (e, g) (p, w)))

  held_fits : T (fits binary64 (clamp plus_zero two z))
  unfolding clamp
  held_fits = cond-fits binary64 (lt z plus_zero) plus_zero (cond (lt two z) two z) (unfold fits in tt) (cond-fits binary64 (lt two z) two z (unfold fits in tt) (sub-fits binary64 one x))

  pub minus_keys : T (finite (clamp plus_zero two z)) × (keyed u ≤ keyed (clamp plus_zero two z))
  minus_keys = (
    held.1.bound,
    key-within u (clamp plus_zero two z) (sub-fits binary64 one y) held_fits (rw u-is (round_sign binary64 false (den y - num y) (den y))) held.0 held.1,
  )
