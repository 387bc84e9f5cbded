-- A row is too far by its norm n and its dot product d alone: with whole numbers M, R, H at most 2^20 times the root of n, that of the
-- query's norm, and their product, the float H / 2^20 is at most the product of the two roots, since it is held and rounding keeps the
-- order; and H is so near that d * d * 64 ≤ t * n suffices for d / (H / 2^20) ≤ g / 2^16.
use mathlib.Core.Path.{◌≡◌, refl, sym, ap, ◌∙◌}
use mathlib.Core.Bool.{true, false, ◌&&◌, true≢false}
use Prim.Native.Nat.{ℕ, suc, ◌+◌, ◌-◌, ◌*◌, ◌/◌, ◌^◌, ◌≤◌, ◌<◌}
use native.Mathlib.Nat.{le_refl, le_trans, le_of_eq, le_of_lt, lt_of_lt_of_le, mul-one, mul_comm, mul_assoc, mul_left_comm, mul_right_comm, mul-le-mul, mul-le-mul_right, mul-le-mul_left, le_of_mul-le-mul_right, mul-pos, mul-mul-mul_comm, add-mul, mul-add, zero-mul}
use native.Mathlib.Decide.{dec_lt}
use native.Mathlib.Omega.{arith}
use lib.IntN.{ℤ, pos, negsuc, nat_abs}
use lib.Dec.{T, leb, ltb, lt→ltb, lit≤, lit<}
use lib.Pow.{pow_pos, pow_mono, shl_lt}
use lib.Ieee.{Float, fin, binary64, unlike, of_int}
use lib.Ieee.Fits.{and_i, of_int-fits}
use lib.Ieee.Exact.{HasValue, round_exact}
use lib.Ieee.Scale.{finite}
use lib.Ieee.Positive.{num, den, den_pos, through, value→cross}
use borrow.Author.Tests.{ltb-true}
use Rattle.float.specs.Values.{one}
use Rattle.float.specs.Order.{negative, keyed}
use Rattle.row.specs.Distance.{◌⊖◌, ◌⊗◌, ◌⊘◌, of_integer, cosine_by}
use Rattle.float.proofs.BitLaws.{value_finite, value_sign}
use Rattle.float.proofs.Within.{Within, holds, half, two as power}
use Rattle.float.proofs.Bounds.{within_refl, within-trans, within_pos, under, over_by, div_is, mul_sign, div_sign, mul_over, mul_under, div_under, sub_under, int_within, int_over, round_sign}
use Rattle.float.proofs.Singles.{positive_of}
use Rattle.root.specs.SquareRoot.{Root, floor_root, sqrt_of}
use Rattle.root.proofs.SquareRoot.{Floor, floor, sqrt_root, root-fine, root-under, root-holds}
use Rattle.cosine.specs.Far.{positive_part, is_far, Far}
use Rattle.cosine.proofs.Minus.{minus_keys}

-- ---- squares
square_less : (a b : ℕ) → a * a < b * b → a < b
square_less a b h = go (dec_lt a b)
  where
    go : Dec (a < b) → a < b
    go (yes l) = l
    go (no l) = let k : b ≤ a = omega arith in absurd (omega (arith, mul-le-mul k k))

square_back : (a b : ℕ) → a * a ≤ b * b → a ≤ b
square_back a b h =
    let k : a * a < (b + 1) * (b + 1) = omega (arith, add-mul b 1 (b + 1), mul-add b b 1) in
    omega (arith, square_less a (b + 1) k)

-- ---- the root of n in units of 2 ^ -20
abbrev units : ℕ → ℕ
units n = floor_root 53 (n * 2 ^ 40)

units_floor : (n : ℕ) → n < 2 ^ 32 → Floor (n * 2 ^ 40) (units n)
units_floor n h = floor 53 (n * 2 ^ 40) (omega arith)

units-low : (n : ℕ) → 1 ≤ n → n < 2 ^ 32 → 1048576 ≤ units n
units-low n l h =
    let f = (units_floor n h).high in
    let k : 1048576 * 1048576 < (units n + 1) * (units n + 1) = omega arith in
    omega (arith, square_less 1048576 (units n + 1) k)

units-high : (n k : ℕ) → n < 2 ^ 32 → n * 2 ^ 40 < k * k → units n < k
units-high n k h l = square_less (units n) k (omega (arith, (units_floor n h).low))

-- ---- the product of the two roots in units of 2 ^ -20; 1099514773506 is (2^20 + 1) * (2^20 + 2)
module _ (M R : ℕ) (lm : 1048576 ≤ M) (lr : 1048576 ≤ R) where
  abbrev H : ℕ
  H = M * R / 1048576

  first_under : M ≤ H
  first_under = omega (arith, mul-le-mul_left M lr)

  second-under : R ≤ H
  second-under = omega (arith, mul-le-mul_right R lm)

  near : (M + 1) * (R + 1) * 1048576 ≤ 1099514773506 * H
  near =
      let a : (M + 1) * (R + 1) ≡ M * R + M + R + 1 = rw (add-mul M 1 (R + 1), mul-add M R 1) (omega arith) in
      omega (arith, first_under, second-under)

  -- n ≤ (M + 1)², q ≤ (R + 1)², each of units
  product-near : (n q : ℕ) → n * 2 ^ 40 ≤ (M + 1) * (M + 1) → q * 2 ^ 40 ≤ (R + 1) * (R + 1)
      → n * 2 ^ 40 * (q * 2 ^ 40) * (1048576 * 1048576) ≤ 1099514773506 * 1099514773506 * (H * H)
  product-near n q h k =
      le_trans (mul-le-mul_right (1048576 * 1048576) (mul-le-mul h k))
      (le_trans (le_of_eq (ap (λ (z : ℕ). z * (1048576 * 1048576)) (mul-mul-mul_comm (M + 1) (M + 1) (R + 1) (R + 1)) ∙ mul-mul-mul_comm ((M + 1) * (R + 1)) ((M + 1) * (R + 1)) 1048576 1048576))
      (le_trans (mul-le-mul near near) (le_of_eq (mul-mul-mul_comm 1099514773506 H 1099514773506 H))))

-- ---- the test
-- t from u, as the code has it
limit-fits : (u t : ℕ) → t ≡ u - u / 131072 - 1 → t * (1099514773506 * 1099514773506) ≤ u * 2 ^ 80
limit-fits u t e =
    let a : t * 131072 ≤ u * 131071 = omega arith in
    le_of_mul-le-mul_right {k = 131072}
    (le_trans (le_of_eq (mul_right_comm t (1099514773506 * 1099514773506) 131072)) (le_trans (mul-le-mul_right (1099514773506 * 1099514773506) a)
    (le_trans (le_of_eq (mul_assoc u 131071 (1099514773506 * 1099514773506))) (le_trans (mul-le-mul_left u (lit≤ tt)) (le_of_eq (sym (mul_assoc u (2 ^ 80) 131072)))))))
    (lit< tt)

-- c e e ≤ t n, t K ≤ u A, u B ≤ g g q and n q C ≤ K h h give e D ≤ g h
chain : (e t n u g q h c K A B C D Z : ℕ) → 0 < K → c * (e * e) ≤ t * n → t * K ≤ u * A → u * B ≤ g * g * q → n * q * C ≤ K * (h * h) → A * Z ≡ B * C → D * D ≡ c * Z
    → e * D * (e * D) ≤ g * h * (g * h)
chain e t n u g q h c K A B C D Z p a b s d x y =
    let first : e * e * (c * Z) * K ≤ t * K * (n * Z) = simp (mul_assoc, mul_comm, mul_left_comm) (simp (mul_assoc, mul_comm, mul_left_comm) at (mul-le-mul_right (Z * K) a)) in
    let second : t * K * (n * Z) ≤ u * (A * Z) * n = simp (mul_assoc, mul_comm, mul_left_comm) (simp (mul_assoc, mul_comm, mul_left_comm) at (mul-le-mul_right (n * Z) b)) in
    let third : u * (B * C) * n ≤ g * g * (n * q * C) = simp (mul_assoc, mul_comm, mul_left_comm) (simp (mul_assoc, mul_comm, mul_left_comm) at (mul-le-mul_right (C * n) s)) in
    let fourth : g * g * (n * q * C) ≤ g * h * (g * h) * K = simp (mul_assoc, mul_comm, mul_left_comm) (simp (mul_assoc, mul_comm, mul_left_comm) at (mul-le-mul_left (g * g) d)) in
    le_of_mul-le-mul_right {k = K}
    (le_trans (le_of_eq (ap (λ (z : ℕ). z * K) (mul-mul-mul_comm e D e D ∙ ap (λ (z : ℕ). e * e * z) y)))
    (le_trans first (le_trans second (le_trans (le_of_eq (ap (λ (z : ℕ). u * z * n) x)) (le_trans third fourth))))) p

-- ---- as floats
-- m / 2 ^ (k + 1)
abbrev over : ℕ → ℕ → Float
over k m = fin false m (negsuc k)

over-held : (m k : ℕ) → m < 2 ^ 53 → T (leb (2 ^ suc k) (2 ^ 1074)) → T (holds binary64 (over k m))
over-held m k h t =
    and_i (ltb m (2 ^ 53) && leb (2 ^ suc k) (2 ^ 1074)) (ltb (m * 1) (2 ^ 1024 * 2 ^ suc k)) (and_i (ltb m (2 ^ 53)) (leb (2 ^ suc k) (2 ^ 1074)) (lt→ltb m (2 ^ 53) h) t)
    (lt→ltb (m * 1) (2 ^ 1024 * 2 ^ suc k) (rw (mul-one m) (lt_of_lt_of_le h (le_trans (lit≤ tt) (rw (mul-one (2 ^ 1024)) at (mul-le-mul_left (2 ^ 1024) (pow_pos (suc k))))))))

whole-value : (n : ℕ) → n < 2 ^ 53 → HasValue (of_integer (pos n)) false n 1
unfolding of_int
whole-value n h = let t : 53 + 1074 ≤ 2098 = lit≤ tt in round_exact binary64 false n 1 n 1074 (lit< tt) h (le_trans (shl_lt 53 1074 h) (pow_mono t)) (sym (mul-one (n * 2 ^ 1074)))

-- g / 2 ^ 16, as the code has it
abbrev pub step : ℕ → Float
step g = of_integer (pos g) ⊗ half 15

module _ (g : ℕ) (few : g < 65536) where
  step-high : Within (step g) one
  step-high = mul_under binary64 one (int_within binary64 (pos g) (power 16) tt (omega arith)) (within_refl (half 15) tt) tt

  pub step_finite : T (finite (one ⊖ step g))
  step_finite = (sub_under binary64 (power 1) (within_refl one tt) step-high tt).fine

  step-plain : negative (step g) ≡ false
  step-plain =
      let v = whole-value g (omega arith) in
      mul_sign binary64 (of_integer (pos g)) (half 15) (value_finite (of_integer (pos g)) false g 1 v) tt ∙ rw (value_sign (of_integer (pos g)) false g 1 v)

  step-over : Within (over 15 g) (step g)
  step-over =
      let w = of_integer (pos g) in
      let v = whole-value g (omega arith) in
      mul_over binary64 (over 15 g) (within_refl w (value_finite w false g 1 v)) (within_refl (half 15) tt) (over-held g 15 (omega arith) tt)
      (rw (mul-one g, ← mul_assoc g (den w) (2 ^ 16), ← value→cross w g 1 v) (le_refl (num w * 1 * 2 ^ 16))) step-high.fine

-- the root of a norm
module _ (n : ℕ) (low : 1 ≤ n) (high : n < 2 ^ 32) where
  abbrev x : Float
  x = of_integer (pos n)

  x-high : Within x (power 32)
  x-high = int_within binary64 (pos n) (power 32) tt (omega arith)

  norm-root : Root x (sqrt_of x)
  norm-root =
      let v = whole-value n (omega arith) in
      let o : Within one x = int_over binary64 (pos n) one tt (omega arith) x-high.fine in
      sqrt_root x (of_int-fits binary64 (pos n)) (positive_of x x-high.fine (value_sign x false n 1 v) (within_pos o (lit< tt)))

  root-high : Within (sqrt_of x) (power 17)
  root-high = root-under x (sqrt_of x) norm-root 1091 (power 32) (power 17) tt (lit< tt) (lit≤ tt) x-high

  root-plain : negative (sqrt_of x) ≡ false
  root-plain = (root-fine x (sqrt_of x) norm-root).1

  units-root : Within (over 19 (units n)) (sqrt_of x)
  units-root =
      let m = units n in
      let s = (units_floor n high).low in
      root-holds x (sqrt_of x) norm-root (over 19 m) (over-held m 19 (omega (arith, units-high n 68719476736 high (omega arith))) tt)
      (rw (mul-one m) (le_trans (mul-le-mul_right (den x) s) (le_of_eq (shift n (den x) (num x) (2 ^ 40) (value→cross x n 1 (whole-value n (omega arith)))))))
    where
      shift : (n D N K : ℕ) → N * 1 ≡ n * D → n * K * D ≡ N * K
      shift n D N K e = let z : N ≡ n * D = sym (mul-one N) ∙ e in rw z (mul_right_comm n K D)

-- ---- the distance of a row with the norm n and the dot product d, from a query with the norm q
module _ (n q : ℕ) (ln : 1 ≤ n) (hn : n < 2 ^ 32) (lq : 1 ≤ q) (hq : q < 2 ^ 26) where
  abbrev M : ℕ
  M = units n

  abbrev R : ℕ
  R = units q

  hq' : q < 2 ^ 32
  hq' = omega arith

  abbrev h : ℕ
  h = H M R (units-low n ln hn) (units-low q lq hq')

  h-low : 1048576 ≤ h
  h-low = omega (arith, first_under M R (units-low n ln hn) (units-low q lq hq'), units-low n ln hn)

  h-high : h < 2 ^ 53
  h-high =
      let a : M ≤ 68719476736 = omega (arith, units-high n 68719476736 hn (omega arith)) in
      let b : R ≤ 8589934592 = omega (arith, units-high q 8589934592 hq' (omega arith)) in
      omega (arith, mul-le-mul a b)

  abbrev root : Float
  root = sqrt_of (of_integer (pos q))

  abbrev p : Float
  p = sqrt_of (of_integer (pos n)) ⊗ root

  p-high : Within p (power 34)
  p-high = mul_under binary64 (power 34) (root-high n ln hn) (root-high q lq hq') tt

  p-plain : negative p ≡ false
  p-plain =
      mul_sign binary64 (sqrt_of (of_integer (pos n))) root (root-high n ln hn).fine (root-high q lq hq').fine ∙ rw (root-plain n ln hn, root-plain q lq hq')

  h-p : Within (over 19 h) p
  h-p =
      mul_over binary64 (over 19 h) (units-root n ln hn) (units-root q lq hq') (over-held h 19 h-high tt)
      (rw (mul-one h, mul-one M, mul-one R) (omega arith)) p-high.fine

  one-p : Within one p
  one-p = within-trans (record { fine = tt; bound = tt; order = rw (mul-one h) (omega (arith, h-low)) }) h-p

  p-some : 0 < num p
  p-some = within_pos one-p (lit< tt)

  module _ (g t u : ℕ) (hg : g < 65536) (tu : t ≡ u - u / 131072 - 1) (ug : u * 67108864 ≤ g * g * q) where
    -- the test says that d / h is at most g, in their units
    within : (e : ℕ) → 64 * (e * e) ≤ t * n → e * 2 ^ 36 ≤ g * h
    within e w =
        square_back (e * 2 ^ 36) (g * h)
        (chain e t n u g q h 64 (1099514773506 * 1099514773506) (2 ^ 80) 67108864 (2 ^ 120) (2 ^ 36) (2 ^ 66) (lit< tt) w (limit-fits u t tu) ug
        (le_trans (le_of_eq (gather n q))
        (product-near M R (units-low n ln hn) (units-low q lq hq') n q (le_of_lt (units_floor n hn).high) (le_of_lt (units_floor q hq').high))) refl refl)
      where
        gather : (n q : ℕ) → n * q * 2 ^ 120 ≡ n * 2 ^ 40 * (q * 2 ^ 40) * (1048576 * 1048576)
        gather n q = sym (ap (λ (z : ℕ). z * (1048576 * 1048576)) (mul-mul-mul_comm n (2 ^ 40) q (2 ^ 40)) ∙ mul_assoc (n * q) (2 ^ 40 * 2 ^ 40) (1048576 * 1048576))

    quotient : (d : ℤ) → nat_abs d ≤ 2 ^ 31 → 64 * (positive_part d * positive_part d) ≤ t * n → negative (of_integer d ⊘ p) ≡ false → Within (of_integer d ⊘ p) (over 15 g)
    quotient (pos e) k w s =
        let a = of_integer (pos e) in
        let v = whole-value e (omega arith) in
        rw (div_is binary64 a p (value_finite a false e 1 v) p-high.fine p-some)
        (under binary64 (unlike (negative a) (negative p)) (num a * den p) (num p * den a) (over 15 g) (over-held g 15 (omega arith) tt) (mul-pos p-some (den_pos a))
        (through (num a * den p) (num a * 2 ^ 20) (g * 1) (num p * den a) (h * 1 * den a) (2 ^ 16) (mul-pos (rw (mul-one h) (omega (arith, h-low))) (den_pos a))
        (over_by (num a) (den a) (num p) (den p) (num a) (den a) (h * 1) (2 ^ 20) (le_refl (num a * den a)) h-p.order)
        (last (num a) e (den a) g h (value→cross a e 1 v) (within e w))))
      where
        last : (N e D g h : ℕ) → N * 1 ≡ e * D → e * 2 ^ 36 ≤ g * h → N * 2 ^ 20 * 2 ^ 16 ≤ g * 1 * (h * 1 * D)
        last N e D g h c k =
            let z : N ≡ e * D = sym (mul-one N) ∙ c in
            let first : e * D * 2 ^ 20 * 2 ^ 16 ≡ e * 2 ^ 36 * D =
            mul_assoc (e * D) (2 ^ 20) (2 ^ 16) ∙ mul_assoc e D (2 ^ 36) ∙ ap (λ (z : ℕ). e * z) (mul_comm D (2 ^ 36)) ∙ sym (mul_assoc e (2 ^ 36) D) in
            rw (mul-one g, mul-one h, z) (le_trans (le_of_eq first) (le_trans (mul-le-mul_right D k) (le_of_eq (mul_assoc g h D))))
    quotient (negsuc e) k w s =
        let a = of_integer (negsuc e) in
        let f = (int_within binary64 (negsuc e) (power 31) tt (omega arith)).fine in
        let b : negative a ≡ true = unfold of_int in round_sign binary64 true (suc e) 1 in
        absurd (true≢false (sym (div_sign binary64 a p f p-high.fine p-some ∙ rw (b, p-plain)) ∙ s))

    far-key : (d : ℤ) → nat_abs d ≤ 2 ^ 31 → 64 * (positive_part d * positive_part d) ≤ t * n
        → T (finite (cosine_by (pos n) root d)) × (keyed (one ⊖ step g) ≤ keyed (cosine_by (pos n) root d))
    unfolding cosine_by
    far-key d k w =
        let x = div_under binary64 (power 31) (int_within binary64 d (power 31) tt (omega arith)) one-p tt in
        let y = step-high g hg in
        minus_keys (of_integer d ⊘ p) (step g) x.fine y.fine (step-plain g hg) (omega (arith, y.order)) (λ s. within-trans (quotient d k w s) (step-over g hg))
        (sub_under binary64 (power 32) (within_refl one tt) x tt).fine

-- ---- for code
pub never : (root : Float) (worst : ℕ) → Far root worst 0
unfolding is_far
never root worst = record { turns = λ n d ln hn hd w. absurd (omega (arith, zero-mul n, ltb-true (positive_part d * positive_part d) (0 * n / 64) w)) }

pub far : (q g worst : ℕ) → q < 67108864 → g < 65536 → let u = g * g * q / 67108864 in
    0 < u → worst < keyed (one ⊖ step g) → Far (sqrt_of (of_integer (pos q))) worst (u - u / 131072 - 1)
unfolding is_far
far q g worst hq hg some h = record {
  turns = λ n d ln hn hd w.
      let u = g * g * q / 67108864 in
      let t = u - u / 131072 - 1 in
      let k = far-key n q ln hn (first (dec_lt 0 q)) hq g t u hg refl (omega arith) d hd (omega (arith, ltb-true (positive_part d * positive_part d) (t * n / 64) w)) in
      (k.0, lt_of_lt_of_le h k.1);
}
  where
    first : Dec (0 < q) → 1 ≤ q
    first (yes l) = l
    first (no l) = let z : q ≡ 0 = omega arith in absurd (omega (arith, rw (z, mul_comm (g * g) 0, zero-mul (g * g)) at some))
