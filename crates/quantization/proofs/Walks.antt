-- The walk over the lent table: it starts at the whole number nearest to x, found by one addition (z + 2 ^ 52 keeps no digit below 1, so its
-- pattern counts), and ends at the last midpoint.
use mathlib.Core.Path.{◌≡◌, ap, ◌∙◌, sym, subst, refl}
use mathlib.Core.Bool.{false, not, true, true≢false}
use mathlib.Core.List.{List}
use Prim.Native.Nat.{ℕ, suc, ◌+◌, ◌-◌, ◌*◌, ◌/◌, ◌^◌, ◌≤◌, ◌<◌}
use native.Mathlib.Nat.{lt_of_mul-lt-mul_right, le_trans, le_of_eq, lt_of_lt_of_le, mul-one, one-mul, mul_comm, mul_assoc, mul_right_comm, mul-le-mul_right, mul-lt-mul_of_pos_right, mul-pos, add-mul, le-div_iff_mul-le, div-lt_iff_lt-mul, le_of_mul-le-mul_right}
use native.Mathlib.Omega.{arith}
use native.Mathlib.Numerals.{add-one}
use borrow.Author.Tests.{ltb-true, ltb-false}
use lib.IntN.{pos}
use lib.Pow.{pow_pos}
use lib.Dec.{T, lit≤, ltb}
use lib.Ieee.{Float, fin, binary64, size, round, sum, add, to_bits, of_bits, is_nan, nan, lt, le}
use lib.Ieee.Digits.{size-le}
use lib.Ieee.Fits.{round-fits}
use lib.Ieee.Bits.{of_bits-fits, to_bits-of_bits, is_true}
use lib.Ieee.Exact.{HasValue}
use lib.Ieee.Nearest.{closest, closest_same}
use lib.Ieee.Scale.{grid, overflow, round_val, finite}
use lib.Ieee.Positive.{num, den, den_pos}
use lib.ListN.{get_or}
use mir.Val.{bool_byte}
use Rattle.le.proofs.Chain.{by}
use Rattle.float.specs.Order.{negative}
use Rattle.float.proofs.BitLaws.{finite_number, value_finite}
use Rattle.float.proofs.Within.{Within}
use Rattle.float.proofs.Bounds.{closest_near, size_gt, add_is, within_refl, within_of_le, le_of_within}
use Rattle.float.proofs.Patterns.{same-value}
use Rattle.float.proofs.Numbers.{le_of_not_lt}
use Rattle.root.proofs.Scales.{root-value}
use Rattle.quantization.specs.Encoder.{midpoint, Levels, not_above, midpoints_of, midpoints}
use Rattle.quantization.specs.Walk.{held, Walked}
use Rattle.quantization.proofs.Scales.{odd_times, float, level_fine, level_sign, level_is}
use Rattle.quantization.proofs.Midpoints.{walked_turn, walked_to, walked_done, walked_all, levels_are, formula_at, rising, le_through, at_most}

next-times : (j c : ℕ) → suc j * c ≡ j * c + c
next-times j c = let k : suc j ≡ j + 1 = omega arith in rw (k, add-mul j 1 c, one-mul c)

-- ---- 2 ^ 52 + a / c, for an a / c up to 126
module _ (a c : ℕ) (C : 0 < c) (h : a ≤ 126 * c) where
  abbrev A : ℕ
  A = a + 2 ^ 52 * c

  abbrev q : ℕ
  q = closest A c

  bounds : (2 ^ 52 ≤ q) × (q ≤ 2 ^ 52 + 126)
  bounds =
      let n = closest_near A c C in
      let low : 2 ^ 52 < suc q = lt_of_mul-lt-mul_right c (omega (arith, n.1, next-times q c)) in
      let high : q < 2 ^ 52 + 127 = lt_of_mul-lt-mul_right c (omega (arith, n.0)) in (omega arith, omega arith)

  digits : size (A * 2 ^ 1074 / c) ≡ 1127
  digits =
      let lo : 2 ^ 52 * c ≤ A = omega arith in
      let hi : A < 2 ^ 53 * c = omega arith in
      let lo' : 2 ^ 1126 * c ≤ A * 2 ^ 1074 = le_trans (le_of_eq (mul_right_comm (2 ^ 52) (2 ^ 1074) c)) (mul-le-mul_right (2 ^ 1074) lo) in
      let hi' : A * 2 ^ 1074 < 2 ^ 1127 * c = lt_of_lt_of_le (mul-lt-mul_of_pos_right hi (pow_pos 1074)) (le_of_eq (mul_right_comm (2 ^ 53) c (2 ^ 1074))) in
      let l = size_gt (A * 2 ^ 1074 / c) 1126 ((le-div_iff_mul-le C).1 lo') in
      let u = size-le (A * 2 ^ 1074 / c) 1127 ((div-lt_iff_lt-mul C).1 hi') in
      omega arith

  on_grid : grid binary64 A c ≡ q * 2 ^ 1074
  on_grid =
      ap (λ (z : ℕ). closest (A * 2 ^ 1074) (c * 2 ^ (z - 53)) * 2 ^ (z - 53)) digits
      ∙ ap (λ (z : ℕ). z * 2 ^ 1074) (closest_same (A * 2 ^ 1074) (c * 2 ^ 1074) A c (mul-pos C (pow_pos 1074)) C (mul_assoc A (2 ^ 1074) c ∙ ap (λ (z : ℕ). A * z) (mul_comm (2 ^ 1074) c)))

  value : HasValue (round binary64 false A c) false (q * 2 ^ 1074) (2 ^ 1074)
  value =
      let s : q < 2 ^ 53 = omega (arith, bounds) in
      subst (λ (z : ℕ). HasValue (round binary64 false A c) false z (2 ^ 1074)) on_grid
      (round_val binary64 A c (subst (λ (z : ℕ). z < overflow binary64) (sym on_grid) (lt_of_lt_of_le (mul-lt-mul_of_pos_right s (pow_pos 1074)) (lit≤ tt))))

  abbrev pattern : ℕ
  pattern = 1074 * 2 ^ 52 + q

  pattern-value : HasValue (of_bits binary64 pattern) false (q * 2 ^ 1074) (2 ^ 1074)
  pattern-value = let b = bounds in root-value 1074 q (lit≤ tt) b.0 (omega arith)

  number : T (not (is_nan (round binary64 false A c)))
  number = finite_number (round binary64 false A c) (value_finite (round binary64 false A c) false (q * 2 ^ 1074) (2 ^ 1074) value)

  bits : to_bits binary64 (round binary64 false A c) ≡ pattern
  bits =
      let b = bounds in
      let e = same-value binary64 false (round binary64 false A c) (of_bits binary64 pattern) (q * 2 ^ 1074) (round-fits binary64 false A c) (of_bits-fits binary64 pattern) value pattern-value in
      rw e (to_bits-of_bits binary64 pattern (omega arith) (rw e at number))

-- what the sum's pattern says
pub record Counted (P : ℕ → Type 0) (y : Float) : Type 0 where
  pub number : T (not (is_nan y))
  pub least : 4841369599423283200 ≤ to_bits binary64 y
  pub start : P (to_bits binary64 y - 4841369599423283200)

-- k is at most a half over z
abbrev Near : Float → ℕ → Type 0
Near z k = 2 * (k * den z) ≤ 2 * num z + den z

whole_of : {P : ℕ → Type 0} (z : Float) → T (finite z) → negative z ≡ false → num z ≤ 126 * den z → ((k : ℕ) → Near z k → P k) → Counted P (add binary64 z (fin false 1 (pos 52)))
unfolding sum
whole_of z f p h g =
    let a = num z in
    let c = den z in
    let C = den_pos z in
    let b = bounds a c C h in
    let n = closest_near (A a c C h) c C in
    let Q = q a c C h in
    let k : Q ≡ 4503599627370496 + (Q - 4503599627370496) = omega arith in
    let d : Q * c ≡ 4503599627370496 * c + (Q - 4503599627370496) * c = ap (λ (z : ℕ). z * c) k ∙ add-mul 4503599627370496 (Q - 4503599627370496) c in
    let e : 1074 * 2 ^ 52 + Q - 4841369599423283200 ≡ Q - 4503599627370496 = omega arith in
    rw (add_is binary64 z (fin false 1 (pos 52)) f tt, p, mul-one a, mul-one c)
    (record {
      number = number a c C h;
      least = rw (bits a c C h) (omega arith);
      start = rw (bits a c C h, e) (g (Q - 4503599627370496) (omega (arith, n.0)));
    })

-- such a k is not over a whole number that z is not over, and the midpoints before it are within z
not_over : (z : Float) (k t : ℕ) → Near z k → num z ≤ t * den z → k ≤ t
not_over z k t n h = let l : k < suc t = lt_of_mul-lt-mul_right (den z) (omega (arith, n, next-times t (den z), den_pos z)) in omega arith

before : (z : Float) (k j : ℕ) → T (finite z) → Near z k → j < k → Within (midpoint j) z
before z k j f n l = record { fine = tt; bound = f; order = omega (arith, n, odd_times j (den z), next-times j (den z), mul-le-mul_right (den z) l) }

-- ---- over the formula's midpoints: where it starts
-- z is x held at y
record Held (x y z : Float) : Type 0 where
  within : Within z y
  plain : negative z ≡ false
  under : (m : Float) → negative m ≡ false → Within m z → le m x ≡ true
  over : (m : Float) → le m x ≡ true → le m z ≡ false → z ≡ y

held-is : (x y : Float) → T (not (is_nan x)) → negative x ≡ false → T (finite y) → negative y ≡ false → Held x y (held y x)
held-is x y n p f q =
    by (lt x y)
    (λ t. rw t (record { within = within_of_le x y p q f (unfold le in rw t tt); plain = p; under = λ m s w. is_true (le m x) (le_of_within m x s p w); over = λ m a b. absurd (true≢false (sym a ∙ b)) }))
    (λ t. rw t (record { within = within_refl y f; plain = q; under = λ m s w. le_through m y x s q n p w (le_of_not_lt x y n (finite_number y f) t); over = λ m a b. refl }))

pub started : {levels : ℕ} → Levels levels → (x : Float) → T (not (is_nan x)) → negative x ≡ false
    → Counted (λ k. (k < levels) × Walked (midpoints_of levels) x k) (add binary64 (held (float (levels - 1)) x) (fin false 1 (pos 52)))
started {levels} g x n p =
    let l : levels - 1 ≤ 126 = omega (arith, g.1) in
    let o : levels - 1 ≤ 127 = omega arith in
    let y = float (levels - 1) in
    let z = held y x in
    let h = held-is x y n p (level_fine o) (level_sign o) in
    let f = h.within.fine in
    let e : num z ≤ (levels - 1) * den z = le_of_mul-le-mul_right (le_trans h.within.order (le_of_eq (rw (level_is o) (mul_right_comm (levels - 1) (den y) (den z))))) (den_pos y) in
    whole_of z f h.plain (omega (arith, e, mul-le-mul_right (den z) l)) (λ k n.
    let i : k < levels = omega (arith, not_over z k (levels - 1) n e, g.0) in
    (i, walked_to k (rw (levels_are levels) (omega arith)) (λ j l. rw (formula_at levels j (omega arith)) (h.under (midpoint j) refl (before z k j f n l)))))

-- ---- its turns in the lent table t, and its end: z is x held at the last level but one, so that it stops at the last midpoint
module _ {levels : ℕ} {t : List Float} {x z : Float} {k : ℕ} (tab : t ≡ midpoints) (p : Levels levels) (n : T (not (is_nan x)) × (negative x ≡ false)) (e : z ≡ held (float (levels - 1)) x)
    (i : (k < levels) × Walked (midpoints_of levels) x k) where
  small : levels - 1 ≤ 127
  small = omega (arith, p.1)

  entry : (j : ℕ) → j < levels → get_or t j nan ≡ midpoint j
  entry j h = rw tab (formula_at 127 j (omega (arith, p.1)))

  h : Held x (float (levels - 1)) z
  h = rw e (held-is x (float (levels - 1)) n.0 n.1 (level_fine small) (level_sign small))

  next : le (midpoint k) x ≡ true → Walked (midpoints_of levels) x (k + 1)
  next q = rw (add-one k) (walked_turn k (rw (levels_are levels) i.0) (rw (formula_at levels k i.0) q) i.1)

  pub walked_next : le (get_or t k nan) z ≡ true → Walked (midpoints_of levels) x (k + 1)
  walked_next q = next (h.under (midpoint k) refl (within_of_le (midpoint k) z refl h.plain h.within.fine (rw (← entry k i.0, q) tt)))

  -- a midpoint at which it stops is above x, or it is the last
  last : le (midpoint k) z ≡ false → le (midpoint k) x ≡ true → k + 1 ≡ levels
  last q r =
      let y = float (levels - 1) in
      by (ltb (k + 1) levels)
      (λ u. let l : k < levels - 1 = omega (arith, ltb-true (k + 1) levels u) in
      let w = before y (levels - 1) k (level_fine small) (rw (level_is small) (omega arith)) l in
      absurd (true≢false (sym (is_true (le (midpoint k) y) (le_of_within (midpoint k) y refl (level_sign small) w)) ∙ rw (h.over (midpoint k) r q) at q)))
      (λ u. omega (arith, i.0, ltb-false (k + 1) levels u))

  above : le (midpoint k) x ≡ false → (j : ℕ) → k ≤ j → le (midpoint j) x ≡ false
  above r j l =
      by (le (midpoint j) x)
      (λ t. absurd (true≢false (sym (le_through (midpoint k) (midpoint j) x refl refl n.0 n.1 (rising k j l) (rw t tt)) ∙ r)))
      (λ t. t)

  ended : le (midpoint k) z ≡ false → k + bool_byte (le (midpoint (levels - 1)) x) ≡ not_above (midpoints_of levels) x
  ended q =
      by (le (midpoint k) x)
      (λ r. let s = last q r in
      let j : levels - 1 ≡ k = omega arith in
      rw (j, r) (walked_all levels (next r) (omega arith)))
      (λ r. rw (above r (levels - 1) (omega (arith, i.0)))
      (omega (arith, walked_done k i.1 (λ j l m. rw (formula_at levels j (rw (levels_are levels) at m)) (above r j l)))))

  pub walked_end : le (get_or t k nan) z ≡ false → (k + bool_byte (le (get_or t (levels - 1) nan) x) ≡ not_above (midpoints_of levels) x) × (k + bool_byte (le (get_or t (levels - 1) nan) x) ≤ 127)
  walked_end q =
      let c = ended (rw (entry k i.0) at q) in
      rw (entry (levels - 1) (omega (arith, p.0))) (c, omega (arith, c, rw (levels_are levels) at (at_most (midpoints_of levels) x), p.1))
