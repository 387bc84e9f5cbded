-- What an addition keeps: a sum of values that have no sign has none and is no less than each of them; and a difference
-- is -0 only where its first operand has a sign.
use mathlib.Core.Path.{◌≡◌, refl, sym, ap, ◌∙◌}
use mathlib.Core.Logic.{◌⊎◌, inl, inr}
use mathlib.Core.Bool.{Bool, true, false, not, beq, cond, true≢false, false≢true}
use Prim.Native.Nat.{ℕ, zero, suc, ◌+◌, ◌-◌, ◌*◌, ◌^◌, ◌≤◌, ◌<◌, zero-le}
use native.Mathlib.Nat.{le_refl, zero-mul, one-mul, mul-pos, mul_assoc, mul_comm, mul_right_comm, mul-sub, suc-mul, mul-le-mul_right, mul-lt-mul_of_pos_right, lt_of_mul-lt-mul_right, add-mul, eq-zero-or-pos}
use native.Mathlib.Omega.{arith}
use lib.IntN.{pos}
use lib.Dec.{T, ltb, lit≤, lit<}
use lib.Pow.{pow_pos}
use lib.Ieee.{Float, nan, inf, fin, Format, binary32, binary64, low, up, down, round, sum, add, sub, mul, le, fits, unlike}
use lib.Ieee.Fits.{down_pos, add-fits}
use lib.Ieee.Scale.{finite}
use lib.Ieee.Positive.{num, den, den_pos}
use borrow.Author.Tests.{ltb-true, ltb-false}
use Rattle.le.proofs.Chain.{by}
use Rattle.float.specs.Values.{plus_zero, one}
use Rattle.float.specs.Order.{negative}
use Rattle.float.proofs.Within.{Within, holds, half, two}
use Rattle.float.proofs.Bounds.{within-trans, within_pos, under, over, add_is, mul_is, mul_under, mul_over, round_sign, le_of_within}
use Rattle.float.proofs.Singles.{units_of, zero_holds, fits-holds, least_of, under_top}

-- ---- no sign, but that a zero may have one
abbrev pub Plus : Float → Type 0
Plus nan = ⊥
Plus (inf s) = ⊥
Plus (fin true m e) = m ≡ 0
Plus (fin false m e) = Unit {0}

pub plus_of : (x : Float) → T (finite x) → negative x ≡ false → Plus x
plus_of nan h p = absurd h
plus_of (inf s) h p = absurd h
plus_of (fin true m e) h p = absurd (true≢false p)
plus_of (fin false m e) h p = tt

pub plus_finite : (x : Float) → Plus x → T (finite x)
plus_finite nan p = p
plus_finite (inf s) p = p
plus_finite (fin s m e) p = tt

pub plus-le : (x : Float) → Plus x → T (le plus_zero x)
unfolding le
plus-le nan p = absurd p
plus-le (inf s) p = absurd p
plus-le (fin true m e) p = rw (p, zero-mul (up e), zero-mul (down e)) tt
plus-le (fin false m e) p = le_of_within plus_zero (fin false m e) refl refl (record { fine = tt; bound = tt; order = rw (zero-mul (down e)) zero-le })

-- a square has none
pub square_plain : (f : Format) (x : Float) → T (finite x) → negative (mul f x x) ≡ false
square_plain f x h = rw (mul_is f x x h h, self (negative x)) (round_sign f false (num x * num x) (den x * den x))
  where
    self : (s : Bool) → unlike s s ≡ false
    self true = refl
    self false = refl

-- ---- a sum of two such values
sum_is : (f : Format) (s : Bool) (a b c : ℕ) → (s ≡ true → a ≡ 0) → sum f s a false b c ≡ round f false (a + b) c
unfolding sum
sum_is f false a b c h = refl
sum_is f true a b c h =
    let p : b - 0 ≡ 0 + b = omega arith in
    rw (h refl) (by (ltb 0 b) (λ e. rw (e, p)) (λ e. let q : b ≡ 0 = omega (arith, ltb-false 0 b e) in rw q))

pub add_plus-is : (f : Format) (x y : Float) → Plus x → T (finite y) → negative y ≡ false → add f x y ≡ round f false (num x * den y + num y * den x) (den x * den y)
add_plus-is f nan y p h q = absurd p
add_plus-is f (inf s) y p h q = absurd p
add_plus-is f (fin true m e) y p h q = rw (add_is f (fin true m e) y tt h, q) (sum_is f true (m * up e * den y) (num y * down e) (down e * den y) (λ u. rw (p, zero-mul (up e)) (zero-mul (den y))))
add_plus-is f (fin false m e) y p h q = rw (add_is f (fin false m e) y tt h, q) (sum_is f false (m * up e * den y) (num y * down e) (down e * den y) (λ u. absurd (false≢true u)))

pub add_plus : (f : Format) (x y : Float) → Plus x → T (finite y) → negative y ≡ false → negative (add f x y) ≡ false
add_plus f x y p h q = rw (add_plus-is f x y p h q) (round_sign f false (num x * den y + num y * den x) (den x * den y))

-- no less than each
first : (X dx Y dy : ℕ) → X * (dx * dy) ≤ (X * dy + Y * dx) * dx
first X dx Y dy =
    let e : X * (dx * dy) ≡ X * dy * dx = rw (mul_comm dx dy) (sym (mul_assoc X dy dx)) in
    rw (add-mul (X * dy) (Y * dx) dx) (omega arith)

second : (X dx Y dy : ℕ) → Y * (dx * dy) ≤ (X * dy + Y * dx) * dy
second X dx Y dy =
    let e : Y * (dx * dy) ≡ Y * dx * dy = sym (mul_assoc Y dx dy) in
    rw (add-mul (X * dy) (Y * dx) dy) (omega arith)

pub zero_within : (x : Float) → T (finite x) → num x ≡ 0 → Within x plus_zero
zero_within x h e = record { fine = h; bound = tt; order = rw e (omega arith) }

pub within-zero : (x : Float) → Within x plus_zero → num x ≡ 0
within-zero x w = let h = w.order in omega arith

module _ (f : Format) (x y : Float) (p : Plus x) (h : T (finite y)) (q : negative y ≡ false) where
  abbrev n : ℕ
  n = num x * den y + num y * den x

  abbrev d : ℕ
  d = den x * den y

  some : 0 < d
  some = mul-pos (den_pos x) (den_pos y)

  pub grows : T (finite (add f x y)) → T (fits f x) → Within x (add f x y)
  grows g t =
      rw (add_plus-is f x y p h q)
      (over f false n d x (fits-holds f x t (plus_finite x p)) some (first (num x) (den x) (num y) (den y)) (rw (add_plus-is f x y p h q) at g))

  pub grows' : T (finite (add f x y)) → T (fits f y) → Within y (add f x y)
  grows' g t =
      rw (add_plus-is f x y p h q)
      (over f false n d y (fits-holds f y t h) some (second (num x) (den x) (num y) (den y)) (rw (add_plus-is f x y p h q) at g))

  pub none : num x ≡ 0 → num y ≡ 0 → num (add f x y) ≡ 0
  none a b =
      let z : n * 1 ≤ 0 * d = rw (a, b, zero-mul (den x), zero-mul (den y)) zero-le in
      rw (add_plus-is f x y p h q) (within-zero (round f false n d) (under f false n d plus_zero (zero_holds f false) some z))

-- ---- 0, or lo at least
abbrev pub Low : Float → Float → Type 0
Low lo x = (num x ≡ 0) ⊎ Within lo x

pub low_add : (f : Format) (lo x y : Float) → Plus x → T (fits f x) → Low lo x → T (finite y) → T (fits f y) → negative y ≡ false → Low lo y → T (finite (add f x y)) → Low lo (add f x y)
low_add f lo x y p t (inl a) h u q (inl b) g = inl (none f x y p h q a b)
low_add f lo x y p t (inr a) h u q (inl b) g = inr (within-trans a (grows f x y p h q g t))
low_add f lo x y p t a h u q (inr b) g = inr (within-trans b (grows' f x y p h q g u))

pub low_of : (f : Format) (k : ℕ) (x : Float) → low f ≡ suc k → T (fits f x) → T (finite x) → Low (half k) x
low_of f k x e t h = elim (eq-zero-or-pos (num x)) [ inl z ↦ inl z | inr p ↦ inr (least_of f k x e t p h) ]

-- the square of an f32
pub square_low : (x : Float) → T (fits binary32 x) → T (finite x) → Low (half 297) (mul binary64 x x)
square_low x t h =
    let c = under_top binary32 x t h in
    elim (low_of binary32 148 x refl t h) [
      | inl e ↦ let z = zero_within x h e in inl (within-zero (mul binary64 x x) (mul_under binary64 plus_zero z z tt))
      | inr w ↦ inr (mul_over binary64 (half 297) w w tt (lit≤ tt) (mul_under binary64 (two 256) c c tt).fine)
    ]

-- ---- a difference is never -0 where its first operand has no sign, an infinity or a NaN among them
abbrev pub minus_zero : Float
minus_zero = fin true 0 (pos 0)

pub add_plain : (f : Format) (x y : Float) → negative x ≡ false → negative y ≡ false → negative (add f x y) ≡ false
unfolding add
add_plain f nan y p q = refl
add_plain f (inf s) nan p q = refl
add_plain f (inf true) (inf t) p q = absurd (true≢false p)
add_plain f (inf false) (inf true) p q = absurd (true≢false q)
add_plain f (inf false) (inf false) p q = refl
add_plain f (inf s) (fin t n d) p q = p
add_plain f (fin s m e) nan p q = refl
add_plain f (fin s m e) (inf t) p q = q
add_plain f (fin s m e) (fin t n d) p q =
    rw (p, q, sum_is f false (m * up e * down d) (n * up d * down e) (down e * down d) (λ u. absurd (false≢true u))) (round_sign f false (m * up e * down d + n * up d * down e) (down e * down d))

-- a value that fits is a whole number of smallest values
whole : (f : Format) (x : Float) → T (fits f x) → T (finite x) → (w : ℕ) × (num x * 2 ^ low f ≡ w * den x)
whole f nan t h = absurd h
whole f (inf s) t h = absurd h
whole f (fin s zero e) t h = (0, rw (zero-mul (up e), zero-mul (down e), zero-mul (2 ^ low f)))
whole f (fin s (suc m) e) t h = let u = units_of f (low f) s m e (le_refl (low f)) t in (suc m * 2 ^ u.0, u.2)

-- so the difference of two that differ is one smallest value at least
apart : (X dx Y dy P u w : ℕ) → 0 < P → X * P ≡ u * dx → Y * P ≡ w * dy → X * dy < Y * dx → dx * dy ≤ (Y * dx - X * dy) * P
apart X dx Y dy P u w p a b h =
    let c : X * dy * P ≡ u * (dx * dy) = mul_right_comm X dy P ∙ ap (λ (z : ℕ). z * dy) a ∙ mul_assoc u dx dy in
    let d : Y * dx * P ≡ w * (dx * dy) = mul_right_comm Y dx P ∙ ap (λ (z : ℕ). z * dx) b ∙ mul_assoc w dy dx ∙ ap (λ (z : ℕ). w * z) (mul_comm dy dx) in
    let l : u * (dx * dy) < w * (dx * dy) = rw (← c, ← d) (mul-lt-mul_of_pos_right h p) in
    let m : suc u ≤ w = lt_of_mul-lt-mul_right (dx * dy) l in
    rw (mul_comm (Y * dx - X * dy) P, mul-sub P (Y * dx) (X * dy), mul_comm P (Y * dx), mul_comm P (X * dy), c, d)
    (omega (arith, mul-le-mul_right (dx * dy) m, suc-mul u (dx * dy)))

smallest : (f : Format) → (k : ℕ) × (low f ≡ suc k) × T (holds f (half k))
smallest binary32 = (148, refl, tt)
smallest binary64 = (1073, refl, tt)

round_some : (f : Format) (s : Bool) (a c : ℕ) → 0 < c → c ≤ a * 2 ^ low f → T (finite (round f s a c)) → 0 < num (round f s a c)
round_some f s a c p h g =
    let k = smallest f in
    within_pos (over f s a c (half k.0) k.2 p (rw (one-mul c, ← k.1) h) g) (lit< tt)

pub sub_some : (f : Format) (x y : Float) → negative x ≡ false → T (fits f x) → T (fits f y) → negative (sub f x y) ≡ true → T (finite (sub f x y)) → 0 < num (sub f x y)
unfolding sub sum
sub_some f nan y p t u h g = absurd g
sub_some f (inf s) nan p t u h g = absurd g
sub_some f (inf s) (inf r) p t u h g = absurd (no (beq s (not r)) g)
  where
    no : (b : Bool) → T (finite (cond b (inf s) nan)) → ⊥
    no true z = z
    no false z = z
sub_some f (inf s) (fin r n d) p t u h g = absurd g
sub_some f (fin s m e) nan p t u h g = absurd g
sub_some f (fin s m e) (inf r) p t u h g = absurd g
sub_some f (fin true m e) (fin r n d) p t u h g = absurd (true≢false p)
sub_some f (fin false m e) (fin true n d) p t u h g = absurd (true≢false (sym h ∙ round_sign f false (m * up e * down d + n * up d * down e) (down e * down d)))
sub_some f (fin false m e) (fin false n d) p t u h g = go (ltb a b) refl h g
  where
    a : ℕ
    a = m * up e * down d

    b : ℕ
    b = n * up d * down e

    c : ℕ
    c = down e * down d

    go : (q : Bool) → ltb a b ≡ q → negative (cond q (round f true (b - a) c) (round f false (a - b) c)) ≡ true → T (finite (cond q (round f true (b - a) c) (round f false (a - b) c)))
        → 0 < num (cond q (round f true (b - a) c) (round f false (a - b) c))
    go true q h g =
        let v = whole f (fin false m e) t tt in
        let w = whole f (fin false n d) u tt in
        round_some f true (b - a) c (mul-pos (down_pos e) (down_pos d)) (apart (m * up e) (down e) (n * up d) (down d) (2 ^ low f) v.0 w.0 (pow_pos (low f)) v.1 w.1 (ltb-true a b q)) g
    go false q h g = absurd (true≢false (sym h ∙ round_sign f false (a - b) c))

pub sub_not_minus : (f : Format) (x y : Float) → negative x ≡ false → T (fits f x) → T (fits f y) → sub f x y ≡ minus_zero → ⊥
sub_not_minus f x y p t u e = let h = sub_some f x y p t u (rw e) (rw e tt) in omega (arith, ap num e)

-- the approximate squared L2 before its floor at 0: two values that have no sign, less a third
pub never_minus : (f : Format) (x y z : Float) → negative x ≡ false → negative y ≡ false → T (fits f z) → sub f (add f x y) z ≡ minus_zero → ⊥
never_minus f x y z p q t = sub_not_minus f (add f x y) z (add_plain f x y p q) (add-fits f x y) t

-- a cosine before its hold in 0..2
pub one_less : (x : Float) → T (fits binary64 x) → sub binary64 one x ≡ minus_zero → ⊥
one_less x t = sub_not_minus binary64 one x refl (unfold fits in tt) t
