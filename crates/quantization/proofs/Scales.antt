-- The part x / levels of an f32 above zero, and the quotient by it: at least levels - 1/2, so the largest coordinate's code is
-- the level count. And a vector's scale. For every level count from 1 to 127.
use mathlib.Core.Path.{◌≡◌, sym, ap, ◌∙◌}
use mathlib.Core.Bool.{false, ◌&&◌}
use Prim.Native.Nat.{ℕ, ◌+◌, ◌-◌, ◌*◌, ◌/◌, ◌^◌, ◌≤◌, ◌<◌}
use native.Mathlib.Nat.{le_of_eq, lt_of_lt_of_le, lt_of_le_of_lt, add-mul, one-mul, mul_assoc, mul_comm, mul_left_comm, mul_right_comm, mul-one, mul-le-mul_right, mul-le-mul_left, mul-lt-mul_of_pos_right, le_of_mul-le-mul_right, mul-pos, mul-mul-mul_comm, div-add-mod', mod-lt}
use native.Mathlib.Omega.{arith}
use lib.IntN.{pos, negsuc}
use lib.Dec.{T, leb, ltb, lt→ltb, lit≤, lit<}
use lib.Pow.{pow-add, pow_pos}
use lib.Ieee.{Float, fin, binary32, binary64, up, down, round, div, eq, of_int, fits, unlike}
use lib.Ieee.Back.{round_whole}
use lib.Ieee.Exact.{HasValue}
use lib.Ieee.Fits.{cond-fits, div-fits, and_i}
use lib.Ieee.Scale.{round_same, finite}
use lib.Ieee.Positive.{num, den, den_pos, through, positive, value→cross}
use Rattle.le.proofs.Chain.{by}
use Rattle.float.specs.Values.{plus_zero, one}
use Rattle.float.specs.Order.{negative}
use Rattle.float.proofs.BitLaws.{value_finite, value_sign}
use Rattle.float.proofs.Within.{Within, holds, two, half}
use Rattle.float.proofs.Bounds.{within_pos, within_refl, int_within, int_over, div_is, div_sign, div_under, div_over, div_within, under, over, under-units, over-units, over_by}
use Rattle.float.proofs.Singles.{Digits, digits, under_top, least, most32, under-most, positive_of, positive_parts, not_zero, is_not_zero}
use Rattle.quantization.specs.Encoder.{Levels, scale_by, midpoint}

-- ---- the level count as a float: its value is exact
abbrev pub float : ℕ → Float
float levels = of_int binary64 (pos levels)

abbrev pub c127 : Float
c127 = fin false 127 (pos 0)

module _ {n : ℕ} (h : n ≤ 127) where
  value : HasValue (float n) false n 1
  unfolding of_int
  value = round_whole binary64 false n (omega arith)

  pub level_fine : T (finite (float n))
  level_fine = value_finite (float n) false n 1 value

  pub level_sign : negative (float n) ≡ false
  level_sign = value_sign (float n) false n 1 value

  pub level_is : num (float n) ≡ n * den (float n)
  level_is = sym (mul-one (num (float n))) ∙ value→cross (float n) n 1 value

module _ {levels : ℕ} (g : Levels levels) where
  pub level_pos : 0 < num (float levels)
  level_pos = rw (level_is g.1) (mul-pos g.0 (den_pos (float levels)))

  -- from 1 to 127
  level_over : Within one (float levels)
  level_over = int_over binary64 (pos levels) one tt (omega (arith, g.0)) (level_fine g.1)

  level_under : Within (float levels) c127
  level_under = int_within binary64 (pos levels) c127 tt (omega (arith, g.1))

  -- the quotient by it
  div_level : (x : Float) → T (finite x) → div binary64 x (float levels) ≡ round binary64 (unlike (negative x) false) (num x) (levels * den x)
  div_level x h =
      let c = float levels in
      rw (div_is binary64 x c h (level_fine g.1) level_pos, level_sign g.1)
      (round_same binary64 (unlike (negative x) false) (num x * den c) (num c * den x) (num x) (levels * den x) (mul-pos level_pos (den_pos x)) (mul-pos g.0 (den_pos x))
      (rw (level_is g.1) (simp (mul_assoc, mul_comm, mul_left_comm))))

-- x is M * W / P, and its part lies between q * W / P and (q + 1) * W / P
record Numbers (levels M q : ℕ) : Type 0 where
  few : q + 1 < 2 ^ 53
  above : M ≤ (q + 1) * levels
  below : q * levels ≤ M
  low : (2 * (levels - 1) + 1) * (q + 1) ≤ M * 2
  high : M * 1 ≤ 128 * q
  some : 0 < q
  most : q + 1 ≤ M * 2

pub odd_times : (j c : ℕ) → (2 * j + 1) * c ≡ 2 * (j * c) + c
odd_times j c = rw (add-mul (2 * j) 1 c, one-mul c, mul_assoc 2 j c)

numbers : (levels m : ℕ) → Levels levels → 0 < m → m < 2 ^ 24 → Numbers levels (m * 536870912) (m * 536870912 / levels)
numbers levels m g p h =
    let M = m * 536870912 in
    let q = M / levels in
    let k = levels - 1 in
    let e = div-add-mod' M levels in
    let r = mod-lt M g.0 in
    let n : (q + 1) * levels ≡ q * levels + levels = rw (add-mul q 1 levels, one-mul levels) in
    let u = mul-le-mul_left (q + 1) g.1 in
    let l = mul-le-mul_left q g.0 in
    let c : levels ≡ k + 1 = omega (arith, g.0) in
    let d : (q + 1) * levels ≡ k * (q + 1) + (q + 1) = mul_comm (q + 1) levels ∙ ap (λ (z : ℕ). z * (q + 1)) c ∙ rw (add-mul k 1 (q + 1), one-mul (q + 1)) in
    let o = odd_times k (q + 1) in
    let big : 4227330 ≤ q = omega (arith, e, r, n, u, p) in
    record {
      few = omega (arith, e, l, h);
      above = omega (arith, e, r, n);
      below = omega (arith, e);
      low = omega (arith, e, n, d, o, big, g.1);
      high = omega (arith, e, r, n, u, big);
      some = omega arith;
      most = omega (arith, e, l, p);
    }

part_up : (L X D M W P q : ℕ) → X * P ≡ M * W * D → M ≤ q * L → X * P ≤ q * W * (L * D)
part_up L X D M W P q e h = rw (e, mul_assoc M W D, mul-mul-mul_comm q W L D) (mul-le-mul_right (W * D) h)

part_down : (L X D M W P q : ℕ) → X * P ≡ M * W * D → q * L ≤ M → q * W * (L * D) ≤ X * P
part_down L X D M W P q e h = rw (e, mul_assoc M W D, mul-mul-mul_comm q W L D) (mul-le-mul_right (W * D) h)

shorter : (A B C W P : ℕ) → A * W * P * (B * C) ≡ A * (B * C) * (W * P)
shorter A B C W P = rw (mul_assoc A W P, mul_right_comm A (W * P) (B * C))

shorter' : (A B q W P : ℕ) → A * B * (q * W * P) ≡ A * B * q * (W * P)
shorter' A B q W P = rw (mul_assoc q W P) (sym (mul_assoc (A * B) q (W * P)))

ratio_low : (H X D S E M W P q : ℕ) → 0 < W * P → 0 < q → X * P ≡ M * W * D → S * P ≤ q * W * E → H * q ≤ M * 2 → H * (S * D) ≤ X * E * 2
ratio_low H X D S E M W P q w Q e h k =
    through H M (X * E) 2 q (S * D) Q k
    (le_of_mul-le-mul_right (rw (shorter M S D W P, shorter' X E q W P) at (over_by (M * W) P (q * W) P X D S E (le_of_eq (sym e)) h)) w)

ratio_high : (X D S E M W P q : ℕ) → 0 < W * P → 0 < q → X * P ≡ M * W * D → q * W * E ≤ S * P → M * 1 ≤ 128 * q → X * E * 1 ≤ 128 * (S * D)
ratio_high X D S E M W P q w Q e h k =
    through (X * E) M 128 (S * D) q 1 Q
    (le_of_mul-le-mul_right (rw (shorter M S D W P, shorter' X E q W P) at (over_by X D S E (M * W) P (q * W) P (le_of_eq e) h)) w) k

-- a midpoint is a float
pub midpoint-held : (k : ℕ) → k < 127 → T (holds binary64 (midpoint k))
midpoint-held k h =
    let n = 2 * k + 1 in
    and_i (ltb n (2 ^ 53) && leb (down (negsuc 0)) (2 ^ 1074)) (ltb (n * up (negsuc 0)) (2 ^ 1024 * down (negsuc 0)))
    (and_i (ltb n (2 ^ 53)) (leb (down (negsuc 0)) (2 ^ 1074)) (lt→ltb n (2 ^ 53) (omega arith)) tt)
    (lt→ltb (n * up (negsuc 0)) (2 ^ 1024 * down (negsuc 0)) (lt_of_lt_of_le {m = 2 ^ 10} (omega arith) (lit≤ tt)))

-- s = x / levels, and x / s
pub record Part (levels : ℕ) (x s : Float) : Type 0 where
  pub plus : T (positive s)
  pub low : Within (half 155) s
  pub high : Within s (two 128)
  pub least : Within (midpoint (levels - 1)) (div binary64 x s)
  pub most : Within (div binary64 x s) (two 7)

record Between (s : Float) (q i : ℕ) : Type 0 where
  fine : T (finite s)
  up : num s * 2 ^ 1074 ≤ (q + 1) * 2 ^ i * den s
  down : q * 2 ^ i * den s ≤ num s * 2 ^ 1074

units : (x : Float) (m i : ℕ) → Digits x m i → num x * 2 ^ 1074 ≡ m * 536870912 * 2 ^ i * den x
units x m i d = d.value ∙ ap (λ (z : ℕ). z * den x) (ap (λ (z : ℕ). m * z) (pow-add 2 29 i) ∙ sym (mul_assoc m (2 ^ 29) (2 ^ i)))

module _ {levels : ℕ} (g : Levels levels) where
  between : (x : Float) (m i : ℕ) → Digits x m i → Between (div binary64 x (float levels)) (m * 536870912 / levels) i
  between x m i d =
      let n = numbers levels m g d.some d.few in
      let M = m * 536870912 in
      let q = M / levels in
      let t = unlike (negative x) false in
      let C : 0 < levels * den x = mul-pos g.0 (den_pos x) in
      let v = units x m i d in
      let top : M * 2 ^ i < 2 ^ 1202 = rw (mul_assoc m (2 ^ 29) (2 ^ i), ← pow-add 2 29 i) d.top in
      let top' : M * 2 * 2 ^ i < 2 ^ 2098 = rw (mul_right_comm M 2 (2 ^ i)) (lt_of_lt_of_le (mul-lt-mul_of_pos_right top (lit< tt)) (lit≤ tt)) in
      let small : q < 2 ^ 53 = omega (arith, n.few) in
      let more : q ≤ M * 2 = omega (arith, n.most) in
      let a = under-units binary64 t (num x) (levels * den x) (q + 1) i C n.few (lt_of_le_of_lt (mul-le-mul_right (2 ^ i) n.most) top') (part_up levels (num x) (den x) M (2 ^ i) (2 ^ 1074) (q + 1) v n.above) in
      rw (div_level g x d.fine)
      (record {
        fine = a.0;
        up = a.1;
        down = over-units binary64 t (num x) (levels * den x) q i C small (lt_of_le_of_lt (mul-le-mul_right (2 ^ i) more) top') (part_down levels (num x) (den x) M (2 ^ i) (2 ^ 1074) q v n.below) a.0;
      })

  pub part : (x : Float) → T (fits binary32 x) → T (positive x) → Part levels x (div binary64 x (float levels))
  part x t p =
      let c = float levels in
      let s = div binary64 x c in
      let w = positive_parts x p in
      let d = digits x t p in
      let m = d.0 in
      let i = d.1 in
      let M = m * 536870912 in
      let q = M / levels in
      let n = numbers levels m g d.2.some d.2.few in
      let b = between x m i d.2 in
      let l : Within (half 155) s = div_over binary64 (half 155) (least x t p) (level_under g) (level_pos g) tt (lit≤ tt) b.fine in
      let S : 0 < num s = within_pos l (lit< tt) in
      let v = units x m i d.2 in
      let W : 0 < 2 ^ i * 2 ^ 1074 = mul-pos (pow_pos i) (pow_pos 1074) in
      let e = div_is binary64 x s w.0 b.fine S in
      let u = unlike (negative x) (negative s) in
      let h : Within (round binary64 u (num x * den s) (num s * den x)) (two 7) =
      under binary64 u (num x * den s) (num s * den x) (two 7) tt (mul-pos S (den_pos x)) (ratio_high (num x) (den x) (num s) (den s) M (2 ^ i) (2 ^ 1074) q W n.some v b.down n.high) in
      let k = levels - 1 in
      let r = ratio_low (2 * k + 1) (num x) (den x) (num s) (den s) M (2 ^ i) (2 ^ 1074) (q + 1) W (omega arith) v b.up n.low in
      record {
        plus = positive_of s b.fine (rw (div_sign binary64 x c w.0 (level_fine g.1) (level_pos g), w.1, level_sign g.1)) S;
        low = l;
        high = div_under binary64 (two 128) (under_top binary32 x t w.0) (level_over g) tt;
        most = rw e h;
        least = rw e (over binary64 u (num x * den s) (num s * den x) (midpoint k) (midpoint-held k (omega (arith, g.0, g.1))) (mul-pos S (den_pos x)) (rw (mul-one (2 * k + 1)) r) h.fine);
      }

-- ---- the scale of a vector whose largest magnitude is x: a finite f32 without a sign
pub record Plain (x : Float) : Type 0 where
  pub fit : T (fits binary32 x)
  pub fine : T (finite x)
  pub sign : negative x ≡ false

above : (x : Float) → Plain x → eq x plus_zero ≡ false → T (positive x)
above x p e = not_zero x p.fine p.sign e

module _ {levels : ℕ} (g : Levels levels) (x : Float) (p : Plain x) where
  pub scale-part : T (positive x) → Part levels x (scale_by levels x)
  unfolding scale_by
  scale-part w = rw (is_not_zero x w) (part g x p.fit w)

  pub scale-plus : T (positive (scale_by levels x))
  unfolding scale_by
  scale-plus = by (eq x plus_zero) (λ e. rw e tt) (λ e. rw e (part g x p.fit (above x p e)).plus)

  -- from 2 ^ -149 / levels
  pub scale-low : Within (div binary64 (half 148) (float levels)) (scale_by levels x)
  unfolding scale_by
  scale-low =
      by (eq x plus_zero)
      (λ e. rw e (div_under binary64 one (within_refl (half 148) tt) (level_over g) tt))
      (λ e. let w = above x p e in rw e (div_within binary64 (least x p.fit w) (within_refl (float levels) (level_fine g.1)) (level_pos g) (part g x p.fit w).low.bound))

  -- to the largest f32 / levels
  pub scale-high : Within (scale_by levels x) (div binary64 most32 (float levels))
  unfolding scale_by
  scale-high =
      let f : T (finite (div binary64 most32 (float levels))) = (div_under binary64 (two 128) (within_refl most32 tt) (level_over g) tt).fine in
      by (eq x plus_zero)
      (λ e. rw e (div_over binary64 one (within_refl most32 tt) (level_under g) (level_pos g) tt (lit≤ tt) f))
      (λ e. rw e (div_within binary64 (under-most x p.fit p.fine) (within_refl (float levels) (level_fine g.1)) (level_pos g) f))

pub scale-fits : (levels : ℕ) (x : Float) → T (fits binary64 (scale_by levels x))
unfolding scale_by
scale-fits levels x = cond-fits binary64 (eq x plus_zero) one (div binary64 x (float levels)) (unfold fits in tt) (div-fits binary64 x (float levels))

-- the bounds are numbers with no sign
pub bound_sign : {levels : ℕ} → Levels levels → (x : Float) → T (finite x) → negative x ≡ false → negative (div binary64 x (float levels)) ≡ false
bound_sign {levels} g x h p = rw (div_sign binary64 x (float levels) h (level_fine g.1) (level_pos g), p, level_sign g.1)
