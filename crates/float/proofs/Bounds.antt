-- Bounds go through the operations: a larger operand gives a result that is no smaller, in size, and a bound that the
-- format holds is kept by the rounding.
use mathlib.Core.Path.{◌≡◌, refl, sym, ap, ◌∙◌, subst}
use mathlib.Core.Bool.{Bool, true, false, not, ◌&&◌, ◌||◌, beq, cond, true≢false}
use Prim.Native.Nat.{ℕ, zero, suc, ◌+◌, ◌-◌, ◌*◌, ◌/◌, ◌%◌, ◌^◌, ◌≤◌, ◌<◌, compare, Ordering}
use native.Mathlib.Nat.{le_refl, le_trans, le_of_eq, le_of_lt, lt_of_lt_of_le, lt_irrefl, mul_comm, mul_assoc, mul_left_comm, mul-one, one-mul, mul-le-mul, mul-le-mul_right, lt_of_mul-lt-mul_right, mul-lt-mul_of_pos_right, mul-pos, mul-mul-mul_comm, add-mul, lt_of_not-le, not-le_of_lt, div-add-mod', mod-lt}
use native.Mathlib.Decide.{dec_lt}
use native.Mathlib.Omega.{arith}
use lib.IntN.{ℤ, pos, negsuc, nat_abs}
use lib.Dec.{T, leb, ltb, eqb, ltb→lt, leb→le, eqb→eq, eqb_refl, is_le, compare_is_eq, nleb→lt, nltb→le, lit<}
use lib.Arith.{lt_of_le-ne}
use lib.Ieee.Digits.{size-lt}
use lib.Pow.{pow-add, pow_pos, pow_mono, pow-lt}
use lib.Ieee.{Float, nan, inf, fin, Format, prec, emax, low, up, down, size, unlike, odd, units, is_nan, round, sum, neg, add, sub, mul, div, le, lt, of_int, nearest}
use lib.Ieee.Fits.{down_pos, and_l, and_r, round_is}
use lib.Ieee.Exact.{HasValue, odd_sign, round_exact}
use lib.Ieee.Nearest.{closest}
use lib.Ieee.Order.{drop, kept, round_mono, le_of_values}
use lib.Ieee.Scale.{finite}
use lib.Ieee.Positive.{num, den, den_pos, through, first_pos}
use borrow.Author.Tests.{ne_eqb}
use Rattle.float.specs.Values.{abs}
use Rattle.float.specs.Order.{negative}
use Rattle.float.proofs.Within.{Within, holds, product, total, quotient}
use Rattle.float.proofs.BitLaws.{value_finite, value_sign, finite_number}
use Rattle.float.proofs.Patterns.{abs_odd}

-- ---- the preorder
pub within_refl : (x : Float) → T (finite x) → Within x x
within_refl x h = record { fine = h; bound = h; order = le_refl (num x * den x) }

pub within-trans : {x y z : Float} → Within x y → Within y z → Within x z
within-trans {x} {y} {z} h k =
    record { fine = h.fine; bound = k.bound; order = through (num x) (num y) (num z) (den x) (den y) (den z) (den_pos y) h.order k.order }

-- ---- two values of one size
pub record Alike (x y : Float) : Type 0 where
  pub nums : num x ≡ num y
  pub dens : den x ≡ den y
  pub fine : finite x ≡ finite y

pub alike-within : {x y z w : Float} → Alike x z → Alike y w → Within z w → Within x y
alike-within a b h = record { fine = rw a.fine h.fine; bound = rw b.fine h.bound; order = rw (a.nums, a.dens, b.nums, b.dens) h.order }

pub alike_refl : (x : Float) → Alike x x
alike_refl x = record { nums = refl; dens = refl; fine = refl }

pub alike_sym : {x y : Float} → Alike x y → Alike y x
alike_sym a = record { nums = sym a.nums; dens = sym a.dens; fine = sym a.fine }

pub abs-alike : (x : Float) → Alike (abs x) x
abs-alike nan = record { nums = refl; dens = refl; fine = refl }
abs-alike (inf s) = record { nums = refl; dens = refl; fine = refl }
abs-alike (fin s m e) = record { nums = refl; dens = refl; fine = refl }

pub neg_alike : (x : Float) → Alike (neg x) x
unfolding neg
neg_alike nan = record { nums = refl; dens = refl; fine = refl }
neg_alike (inf s) = record { nums = refl; dens = refl; fine = refl }
neg_alike (fin s m e) = record { nums = refl; dens = refl; fine = refl }

odd_alike : (d : ℕ) (s t : Bool) (q k l : ℕ) → Alike (odd d s q k l) (odd d t q k l)
unfolding odd
odd_alike d s t zero k l = record { nums = refl; dens = refl; fine = refl }
odd_alike d s t (suc q) k l = record { nums = refl; dens = refl; fine = refl }

-- ---- what holds of the two outcomes of a rounding, for two signs at once
round_cases : (P : Float → Float → Type 0) (f : Format) (s t : Bool) → ((q k : ℕ) → P (odd (suc (prec f)) s q k (low f)) (odd (suc (prec f)) t q k (low f))) → P (inf s) (inf t)
    → (a c : ℕ) → P (round f s a c) (round f t a c)
unfolding units
round_cases P f s t h i a c =
    let n = a * 2 ^ low f in
    let q = kept (prec f) n c in
    let k = drop (prec f) n c in
    rw (round_is f s a c, round_is f t a c) (go (ltb (q * 2 ^ k) (2 ^ (low f + suc (emax f)))) q k)
  where
    go : (b : Bool) (q k : ℕ) → P (cond b (odd (suc (prec f)) s q k (low f)) (inf s)) (cond b (odd (suc (prec f)) t q k (low f)) (inf t))
    go true q k = h q k
    go false q k = i

pub round_alike : (f : Format) (s t : Bool) (a c : ℕ) → Alike (round f s a c) (round f t a c)
round_alike f s t =
    round_cases Alike f s t (λ q k. odd_alike (suc (prec f)) s t q k (low f)) (record { nums = refl; dens = refl; fine = refl })

pub round_sign : (f : Format) (s : Bool) (a c : ℕ) → negative (round f s a c) ≡ s
round_sign f s = round_cases (λ x y. negative x ≡ s) f s s (λ q k. value_sign (odd (suc (prec f)) s q k (low f)) s (q * 2 ^ k) (2 ^ low f) (odd_sign (suc (prec f)) s q k (low f))) refl

pub round_number : (f : Format) (s : Bool) (a c : ℕ) → T (not (is_nan (round f s a c)))
round_number f s =
    round_cases (λ x y. T (not (is_nan x))) f s s
    (λ q k. let x = odd (suc (prec f)) s q k (low f) in finite_number x (value_finite x s (q * 2 ^ k) (2 ^ low f) (odd_sign (suc (prec f)) s q k (low f)))) (unfold is_nan in tt)

pub abs_round : (f : Format) (s : Bool) (a c : ℕ) → abs (round f s a c) ≡ round f false a c
abs_round f s = round_cases (λ x y. abs x ≡ y) f s false (λ q k. abs_odd (suc (prec f)) s q k (low f)) refl

-- ---- `le` of two values that have no sign
lt_or_eq : (a b : ℕ) → T (ltb a b || (eqb a b && true)) → a ≤ b
lt_or_eq a b t = go (ltb a b) (eqb a b) (ltb→lt a b) (eqb→eq a b) t
  where
    go : (p q : Bool) → (T p → a < b) → (T q → a ≡ b) → T (p || (q && true)) → a ≤ b
    go true q h k t = le_of_lt (h tt)
    go false true h k t = le_of_eq (k tt)
    go false false h k t = absurd t

pub within_of_le : (x y : Float) → negative x ≡ false → negative y ≡ false → T (finite y) → T (le x y) → Within x y
unfolding le
within_of_le x nan p q h t = absurd h
within_of_le x (inf s) p q h t = absurd h
within_of_le nan (fin s n d) p q h t = absurd t
within_of_le (inf true) (fin s n d) p q h t = absurd (true≢false p)
within_of_le (inf false) (fin s n d) p q h t = absurd t
within_of_le (fin true m e) (fin s n d) p q h t = absurd (true≢false p)
within_of_le (fin false m e) (fin true n d) p q h t = absurd (true≢false q)
within_of_le (fin false m e) (fin false n d) p q h t = record { fine = tt; bound = tt; order = lt_or_eq (m * up e * down d) (n * up d * down e) t }

-- ---- rounding keeps the order
pub rounded : (f : Format) (s t : Bool) (a b c d : ℕ) → 0 < b → 0 < d → a * d ≤ c * b → T (finite (round f t c d)) → Within (round f s a b) (round f t c d)
rounded f s t a b c d B D h k =
    alike-within (round_alike f s false a b) (round_alike f t false c d)
    (within_of_le (round f false a b) (round f false c d) (round_sign f false a b) (round_sign f false c d)
    (rw (round_alike f t false c d).fine at k) (round_mono f a b c d B D h))

-- ---- a bound that the format holds rounds to itself
pub pow_back : (a b : ℕ) → 2 ^ a ≤ 2 ^ b → a ≤ b
pow_back a b h = go (dec_lt b a)
  where
    go : Dec (b < a) → a ≤ b
    go (yes l) = absurd (lt_irrefl (2 ^ b) (lt_of_lt_of_le (pow-lt l) h))
    go (no l) = omega arith

value-within : (x b : Float) (s : Bool) → T (finite b) → HasValue x s (num b) (den b) → Within x b × Within b x
value-within nan b s h v = absurd v
value-within (inf t) b s h v = absurd v
value-within (fin t m e) b s h v =
    (record { fine = tt; bound = h; order = le_of_eq v.1 }, record { fine = h; bound = tt; order = le_of_eq (sym v.1) })

exact-up : (f : Format) (s : Bool) (m k : ℕ) → m < 2 ^ prec f → m * 2 ^ k < 2 ^ suc (emax f) * 1 → HasValue (round f s (m * 2 ^ k) 1) s (m * 2 ^ k) 1
exact-up f s m k a b =
    let e : m * 2 ^ (k + low f) ≡ m * 2 ^ k * 2 ^ low f = rw (pow-add 2 k (low f)) (sym (mul_assoc m (2 ^ k) (2 ^ low f))) in
    round_exact f s (m * 2 ^ k) 1 m (k + low f) (omega arith) a
    (rw (e, pow-add 2 (low f) (suc (emax f)), mul_comm (2 ^ low f) (2 ^ suc (emax f))) (mul-lt-mul_of_pos_right (rw mul-one at b) (pow_pos (low f))))
    (rw (e, mul-one (m * 2 ^ k * 2 ^ low f)))

exact_down : (f : Format) (s : Bool) (m k : ℕ) → m < 2 ^ prec f → 2 ^ suc k ≤ 2 ^ low f → m * 1 < 2 ^ suc (emax f) * 2 ^ suc k → HasValue (round f s (m * 1) (2 ^ suc k)) s (m * 1) (2 ^ suc k)
exact_down f s m k a d b =
    let l : suc k ≤ low f = pow_back (suc k) (low f) d in
    let n : low f - suc k + suc k ≡ low f = omega arith in
    let e : 2 ^ (low f - suc k) * 2 ^ suc k ≡ 2 ^ low f = sym (pow-add 2 (low f - suc k) (suc k)) ∙ ap (λ (z : ℕ). 2 ^ z) n in
    round_exact f s (m * 1) (2 ^ suc k) m (low f - suc k) (pow_pos (suc k)) a
    (lt_of_mul-lt-mul_right (2 ^ suc k)
    (rw (mul_assoc m (2 ^ (low f - suc k)) (2 ^ suc k), e, pow-add 2 (low f) (suc (emax f)), mul_assoc (2 ^ low f) (2 ^ suc (emax f)) (2 ^ suc k), mul_comm (2 ^ low f) (2 ^ suc (emax f) * 2 ^ suc k))
    (mul-lt-mul_of_pos_right (rw mul-one at b) (pow_pos (low f)))))
    (rw (mul-one, mul_assoc m (2 ^ (low f - suc k)) (2 ^ suc k), e))

pub settled : (f : Format) (s : Bool) (b : Float) → T (holds f b) → Within (round f s (num b) (den b)) b × Within b (round f s (num b) (den b))
settled f s nan h = absurd h
settled f s (inf t) h = absurd h
settled f s (fin t m (pos k)) h =
    let p = ltb m (2 ^ prec f) in
    let q = leb 1 (2 ^ low f) in
    let r = ltb (m * 2 ^ k) (2 ^ suc (emax f) * 1) in
    value-within (round f s (m * 2 ^ k) 1) (fin t m (pos k)) s tt
    (exact-up f s m k (ltb→lt m (2 ^ prec f) (and_l p q (and_l (p && q) r h))) (ltb→lt (m * 2 ^ k) (2 ^ suc (emax f) * 1) (and_r (p && q) r h)))
settled f s (fin t m (negsuc k)) h =
    let p = ltb m (2 ^ prec f) in
    let q = leb (2 ^ suc k) (2 ^ low f) in
    let r = ltb (m * 1) (2 ^ suc (emax f) * 2 ^ suc k) in
    value-within (round f s (m * 1) (2 ^ suc k)) (fin t m (negsuc k)) s tt
    (exact_down f s m k (ltb→lt m (2 ^ prec f) (and_l p q (and_l (p && q) r h))) (leb→le (2 ^ suc k) (2 ^ low f) (and_r p q (and_l (p && q) r h)))
    (ltb→lt (m * 1) (2 ^ suc (emax f) * 2 ^ suc k) (and_r (p && q) r h)))

-- so a fraction at most the bound rounds to a value within it, and one at least the bound to a value that the bound is
-- within
pub under : (f : Format) (s : Bool) (a c : ℕ) (b : Float) → T (holds f b) → 0 < c → a * den b ≤ num b * c → Within (round f s a c) b
under f s a c b h C k =
    let w = settled f s b h in
    within-trans (rounded f s s a c (num b) (den b) C (den_pos b) k w.0.fine) w.0

pub over : (f : Format) (s : Bool) (a c : ℕ) (b : Float) → T (holds f b) → 0 < c → num b * c ≤ a * den b → T (finite (round f s a c)) → Within b (round f s a c)
over f s a c b h C k g = within-trans (settled f s b h).1 (rounded f s s (num b) (den b) a c (den_pos b) C k g)

-- ---- the operations on finite values
pub mul_is : (f : Format) (x y : Float) → T (finite x) → T (finite y) → mul f x y ≡ round f (unlike (negative x) (negative y)) (num x * num y) (den x * den y)
unfolding mul
mul_is f nan y p q = absurd p
mul_is f (inf s) y p q = absurd p
mul_is f (fin s m e) nan p q = absurd q
mul_is f (fin s m e) (inf t) p q = absurd q
mul_is f (fin s m e) (fin t n d) p q = refl

pub div_is : (f : Format) (x y : Float) → T (finite x) → T (finite y) → 0 < num y → div f x y ≡ round f (unlike (negative x) (negative y)) (num x * den y) (num y * den x)
unfolding div
div_is f nan y p q h = absurd p
div_is f (inf s) y p q h = absurd p
div_is f (fin s m e) nan p q h = absurd q
div_is f (fin s m e) (inf t) p q h = absurd q
div_is f (fin s m e) (fin t n d) p q h = let k : 0 < n = first_pos n (up d) h in rw (ne_eqb n 0 (λ z. omega arith))

pub add_is : (f : Format) (x y : Float) → T (finite x) → T (finite y) → add f x y ≡ sum f (negative x) (num x * den y) (negative y) (num y * den x) (den x * den y)
unfolding add
add_is f nan y p q = absurd p
add_is f (inf s) y p q = absurd p
add_is f (fin s m e) nan p q = absurd q
add_is f (fin s m e) (inf t) p q = absurd q
add_is f (fin s m e) (fin t n d) p q = refl

pub neg_within : {x y : Float} → Within x y → Within (neg x) y
neg_within {x} {y} h = alike-within (neg_alike x) (alike_refl y) h

pub abs-within : {x y : Float} → Within x y → Within (abs x) y
abs-within {x} {y} h = alike-within (abs-alike x) (alike_refl y) h

pub mul_sign : (f : Format) (x y : Float) → T (finite x) → T (finite y) → negative (mul f x y) ≡ unlike (negative x) (negative y)
mul_sign f x y h k = rw (mul_is f x y h k) (round_sign f (unlike (negative x) (negative y)) (num x * num y) (den x * den y))

pub div_sign : (f : Format) (x y : Float) → T (finite x) → T (finite y) → 0 < num y → negative (div f x y) ≡ unlike (negative x) (negative y)
div_sign f x y h k p = rw (div_is f x y h k p) (round_sign f (unlike (negative x) (negative y)) (num x * den y) (num y * den x))

-- an integer
pub int_within : (f : Format) (z : ℤ) (b : Float) → T (holds f b) → nat_abs z * den b ≤ num b → Within (of_int f z) b
unfolding of_int
int_within f (pos n) b h k = under f false n 1 b h (lit< tt) (rw (mul-one (num b)) k)
int_within f (negsuc n) b h k = under f true (suc n) 1 b h (lit< tt) (rw (mul-one (num b)) k)

pub int_over : (f : Format) (z : ℤ) (b : Float) → T (holds f b) → num b ≤ nat_abs z * den b → T (finite (of_int f z)) → Within b (of_int f z)
unfolding of_int
int_over f (pos n) b h k g = over f false n 1 b h (lit< tt) (rw (mul-one (num b)) k) g
int_over f (negsuc n) b h k g = over f true (suc n) 1 b h (lit< tt) (rw (mul-one (num b)) k) g

-- a sum's size is at most the sizes' sum
pub sum_under : (f : Format) (s : Bool) (a : ℕ) (t : Bool) (b c : ℕ) (r : Float) → T (holds f r) → 0 < c → (a + b) * den r ≤ num r * c → Within (sum f s a t b c) r
unfolding sum
sum_under f s a t b c r h C k = go (beq s t) (ltb a b)
  where
    each : (u : Bool) (n : ℕ) → n ≤ a + b → Within (round f u n c) r
    each u n l = under f u n c r h C (le_trans (mul-le-mul_right (den r) l) k)

    go : (p q : Bool) → Within (cond p (round f s (a + b) c) (cond q (round f t (b - a) c) (round f (s && ltb b a) (a - b) c))) r
    go true q = each s (a + b) (le_refl (a + b))
    go false true = each t (b - a) (omega arith)
    go false false = each (s && ltb b a) (a - b) (omega arith)

-- ---- fractions: X / dx ≤ A / da and Y / dy ≤ B / db
times : (X dx Y dy A da B db : ℕ) → X * da ≤ A * dx → Y * db ≤ B * dy → X * Y * (da * db) ≤ A * B * (dx * dy)
times X dx Y dy A da B db h k = rw (mul-mul-mul_comm X Y da db, mul-mul-mul_comm A B dx dy) (mul-le-mul h k)

plus : (X dx Y dy A da B db : ℕ) → X * da ≤ A * dx → Y * db ≤ B * dy → (X * dy + Y * dx) * (da * db) ≤ (A * db + B * da) * (dx * dy)
plus X dx Y dy A da B db h k =
    let p : X * dy * (da * db) ≤ A * db * (dx * dy) =
    rw (mul-mul-mul_comm X dy da db, mul-mul-mul_comm A db dx dy, mul_comm db dy) (mul-le-mul_right (dy * db) h) in
    let q : Y * dx * (da * db) ≤ B * da * (dx * dy) =
    rw (mul_comm da db, mul_comm dx dy, mul-mul-mul_comm Y dx db da, mul-mul-mul_comm B da dy dx, mul_comm da dx) (mul-le-mul_right (dx * da) k) in
    rw (add-mul (X * dy) (Y * dx) (da * db), add-mul (A * db) (B * da) (dx * dy)) (omega arith)

-- X / dx ≤ A / da and B / db ≤ Y / dy
pub over_by : (X dx Y dy A da B db : ℕ) → X * da ≤ A * dx → B * dy ≤ Y * db → X * dy * (B * da) ≤ A * db * (Y * dx)
over_by X dx Y dy A da B db h k = simp (mul_assoc, mul_comm, mul_left_comm) (simp (mul_assoc, mul_comm, mul_left_comm) at (mul-le-mul h k))

-- ---- bounds through the operations
module _ (f : Format) where
  pub mul_under : {x y a b : Float} (c : Float) → Within x a → Within y b → T (product f a b c) → Within (mul f x y) c
  mul_under {x} {y} {a} {b} c h k t =
      let g = holds f c in
      let l = leb (num a * num b * den c) (num c * (den a * den b)) in
      rw (mul_is f x y h.fine k.fine)
      (under f (unlike (negative x) (negative y)) (num x * num y) (den x * den y) c (and_l g l t) (mul-pos (den_pos x) (den_pos y))
      (through (num x * num y) (num a * num b) (num c) (den x * den y) (den a * den b) (den c) (mul-pos (den_pos a) (den_pos b))
      (times (num x) (den x) (num y) (den y) (num a) (den a) (num b) (den b) h.order k.order)
      (leb→le (num a * num b * den c) (num c * (den a * den b)) (and_r g l t))))

  pub mul_over : {x y a b : Float} (c : Float) → Within a x → Within b y → T (holds f c) → num c * (den a * den b) ≤ num a * num b * den c → T (finite (mul f x y)) → Within c (mul f x y)
  mul_over {x} {y} {a} {b} c h k t l g =
      rw (mul_is f x y h.bound k.bound)
      (over f (unlike (negative x) (negative y)) (num x * num y) (den x * den y) c t (mul-pos (den_pos x) (den_pos y))
      (through (num c) (num a * num b) (num x * num y) (den c) (den a * den b) (den x * den y) (mul-pos (den_pos a) (den_pos b)) l
      (times (num a) (den a) (num b) (den b) (num x) (den x) (num y) (den y) h.order k.order))
      (rw (mul_is f x y h.bound k.bound) at g))

  pub add_under : {x y a b : Float} (c : Float) → Within x a → Within y b → T (total f a b c) → Within (add f x y) c
  add_under {x} {y} {a} {b} c h k t =
      let g = holds f c in
      let l = leb ((num a * den b + num b * den a) * den c) (num c * (den a * den b)) in
      rw (add_is f x y h.fine k.fine)
      (sum_under f (negative x) (num x * den y) (negative y) (num y * den x) (den x * den y) c (and_l g l t) (mul-pos (den_pos x) (den_pos y))
      (through (num x * den y + num y * den x) (num a * den b + num b * den a) (num c) (den x * den y) (den a * den b) (den c) (mul-pos (den_pos a) (den_pos b))
      (plus (num x) (den x) (num y) (den y) (num a) (den a) (num b) (den b) h.order k.order)
      (leb→le ((num a * den b + num b * den a) * den c) (num c * (den a * den b)) (and_r g l t))))

  pub sub_under : {x y a b : Float} (c : Float) → Within x a → Within y b → T (total f a b c) → Within (sub f x y) c
  unfolding sub
  sub_under c h k t = add_under c h (neg_within k) t

  pub div_under : {x y a b : Float} (c : Float) → Within x a → Within b y → T (quotient f a b c) → Within (div f x y) c
  div_under {x} {y} {a} {b} c h k t =
      let g = holds f c in
      let p = ltb 0 (num b) in
      let l = leb (num a * den b * den c) (num c * (num b * den a)) in
      let B : 0 < num b = ltb→lt 0 (num b) (and_r g p (and_l (g && p) l t)) in
      let Y : 0 < num y = first_pos (num y) (den b) (lt_of_lt_of_le (mul-pos B (den_pos y)) k.order) in
      rw (div_is f x y h.fine k.bound Y)
      (under f (unlike (negative x) (negative y)) (num x * den y) (num y * den x) c (and_l g p (and_l (g && p) l t)) (mul-pos Y (den_pos x))
      (through (num x * den y) (num a * den b) (num c) (num y * den x) (num b * den a) (den c) (mul-pos B (den_pos a))
      (over_by (num x) (den x) (num y) (den y) (num a) (den a) (num b) (den b) h.order k.order)
      (leb→le (num a * den b * den c) (num c * (num b * den a)) (and_r (g && p) l t))))

-- ---- with the bound an operation's result too
pub within_pos : {x y : Float} → Within x y → 0 < num x → 0 < num y
within_pos {x} {y} h p = first_pos (num y) (den x) (lt_of_lt_of_le (mul-pos p (den_pos y)) h.order)

pub div_within : (f : Format) {x y a b : Float} → Within x a → Within b y → 0 < num b → T (finite (div f a b)) → Within (div f x y) (div f a b)
div_within f {x} {y} {a} {b} h k p g =
    let q : 0 < num y = within_pos k p in
    let e = div_is f a b h.bound k.fine p in
    rw (div_is f x y h.fine k.bound q, e)
    (rounded f (unlike (negative x) (negative y)) (unlike (negative a) (negative b)) (num x * den y) (num y * den x) (num a * den b) (num b * den a)
    (mul-pos q (den_pos x)) (mul-pos p (den_pos a)) (over_by (num x) (den x) (num y) (den y) (num a) (den a) (num b) (den b) h.order k.order) (rw e at g))

pub div_over : (f : Format) {x y a b : Float} (c : Float) → Within a x → Within y b → 0 < num y → T (holds f c) → num c * (num b * den a) ≤ num a * den b * den c → T (finite (div f x y)) → Within c (div f x y)
div_over f {x} {y} {a} {b} c h k p t l g =
    let B : 0 < num b = within_pos k p in
    let e = div_is f x y h.bound k.fine p in
    rw e
    (over f (unlike (negative x) (negative y)) (num x * den y) (num y * den x) c t (mul-pos p (den_pos x))
    (through (num c) (num a * den b) (num x * den y) (den c) (num b * den a) (num y * den x) (mul-pos B (den_pos a)) l
    (over_by (num a) (den a) (num b) (den b) (num x) (den x) (num y) (den y) h.order k.order))
    (rw e at g))

-- ---- by a whole number q * 2 ^ j of the format's smallest values
unit_value : (x r : Float) (s : Bool) (a c : ℕ) → 0 < c → HasValue r s a c → (Within x r → num x * c ≤ a * den x) × (Within r x → a * den x ≤ num x * c)
unit_value x nan s a c C v = absurd v
unit_value x (inf t) s a c C v = absurd v
unit_value x (fin t m e) s a c C v = (
  λ h. through (num x) (m * up e) a (den x) (down e) c (down_pos e) h.order (le_of_eq v.1),
  λ h. through a (m * up e) (num x) c (down e) (den x) (down_pos e) (le_of_eq (sym v.1)) h.order,
)

module _ (f : Format) (s : Bool) (a c q j : ℕ) (C : 0 < c) (small : q < 2 ^ prec f) (fine : q * 2 ^ j < 2 ^ (low f + suc (emax f))) where
  grain : HasValue (round f s (q * 2 ^ j) (2 ^ low f)) s (q * 2 ^ j) (2 ^ low f)
  grain = round_exact f s (q * 2 ^ j) (2 ^ low f) q j (pow_pos (low f)) small fine refl

  pub under-units : a * 2 ^ low f ≤ q * 2 ^ j * c → T (finite (round f s a c)) × (num (round f s a c) * 2 ^ low f ≤ q * 2 ^ j * den (round f s a c))
  under-units h =
      let r = round f s (q * 2 ^ j) (2 ^ low f) in
      let w = rounded f s s a c (q * 2 ^ j) (2 ^ low f) C (pow_pos (low f)) h (value_finite r s (q * 2 ^ j) (2 ^ low f) grain) in
      (w.fine, (unit_value (round f s a c) r s (q * 2 ^ j) (2 ^ low f) (pow_pos (low f)) grain).0 w)

  pub over-units : q * 2 ^ j * c ≤ a * 2 ^ low f → T (finite (round f s a c)) → q * 2 ^ j * den (round f s a c) ≤ num (round f s a c) * 2 ^ low f
  over-units h g =
      let r = round f s (q * 2 ^ j) (2 ^ low f) in
      (unit_value (round f s a c) r s (q * 2 ^ j) (2 ^ low f) (pow_pos (low f)) grain).1 (rounded f s s (q * 2 ^ j) (2 ^ low f) a c (pow_pos (low f)) C h g)

-- ---- from sizes back to `le`
pub le_of_within : (x y : Float) → negative x ≡ false → negative y ≡ false → Within x y → T (le x y)
le_of_within nan y p q h = absurd h.fine
le_of_within (inf s) y p q h = absurd h.fine
le_of_within (fin s m e) nan p q h = absurd h.bound
le_of_within (fin s m e) (inf t) p q h = absurd h.bound
le_of_within (fin s m e) (fin t n d) p q h =
    le_of_values (fin s m e) (fin t n d) (m * up e) (down e) (n * up d) (down d) (down_pos e) (down_pos d) (p, refl) (q, refl) h.order

-- of two values that have no sign, the test says which is within the other
pub within_of_lt : (x y : Float) → T (finite x) → T (finite y) → negative x ≡ false → negative y ≡ false → lt x y ≡ true → Within x y
unfolding lt
within_of_lt nan y f g p q h = absurd f
within_of_lt (inf s) y f g p q h = absurd f
within_of_lt (fin s m e) nan f g p q h = absurd g
within_of_lt (fin s m e) (inf t) f g p q h = absurd g
within_of_lt (fin true m e) (fin t n d) f g p q h = absurd (true≢false p)
within_of_lt (fin false m e) (fin true n d) f g p q h = absurd (true≢false q)
within_of_lt (fin false m e) (fin false n d) f g p q h = record { fine = tt; bound = tt; order = le_of_lt (ltb→lt (m * up e * down d) (n * up d * down e) (rw h tt)) }

pub within_of_not_lt : (x y : Float) → T (finite x) → T (finite y) → negative x ≡ false → negative y ≡ false → lt x y ≡ false → Within y x
unfolding lt
within_of_not_lt nan y f g p q h = absurd f
within_of_not_lt (inf s) y f g p q h = absurd f
within_of_not_lt (fin s m e) nan f g p q h = absurd g
within_of_not_lt (fin s m e) (inf t) f g p q h = absurd g
within_of_not_lt (fin true m e) (fin t n d) f g p q h = absurd (true≢false p)
within_of_not_lt (fin false m e) (fin true n d) f g p q h = absurd (true≢false q)
within_of_not_lt (fin false m e) (fin false n d) f g p q h = record { fine = tt; bound = tt; order = nltb→le (m * up e * down d) (n * up d * down e) (rw h tt) }

-- ---- a quotient without its sign
pub abs_sign : (x : Float) → negative (abs x) ≡ false
abs_sign nan = refl
abs_sign (inf s) = refl
abs_sign (fin s m e) = refl

pub abs-div : (f : Format) (x y : Float) → T (finite x) → T (finite y) → negative y ≡ false → 0 < num y → abs (div f x y) ≡ div f (abs x) y
abs-div f x y h k q p =
    let a = abs-alike x in
    rw (div_is f x y h k p, abs_round f (unlike (negative x) (negative y)) (num x * den y) (num y * den x), div_is f (abs x) y (rw a.fine h) k p, a.nums, a.dens, abs_sign x, q)

-- ---- the nearest whole number is at most a half away
abbrev Compared : Ordering → ℕ → ℕ → Type 0
Compared Ordering.lt a b = a < b
Compared Ordering.eq a b = a ≡ b
Compared Ordering.gt a b = b < a

compared : (a b : ℕ) → Compared (compare a b) a b
compared a b = go (compare a b) (leb→le a b) (nleb→lt a b) (eqb→eq a b) (λ (e : a ≡ b). subst (λ (x : ℕ). T (eqb a x)) e (eqb_refl a))
  where
    go : (o : Ordering) → (T (is_le o) → a ≤ b) → (T (not (is_le o)) → b < a) → (T (compare_is_eq o) → a ≡ b) → (a ≡ b → T (compare_is_eq o)) → Compared o a b
    go Ordering.lt h k e n = lt_of_le-ne (h tt) n
    go Ordering.eq h k e n = e tt
    go Ordering.gt h k e n = k tt

nearest-half : (a c w r : ℕ) (o : Ordering) → w * c + r ≡ a → r < c → Compared o (r * 2) c → (2 * (nearest w o * c) ≤ 2 * a + c) × (2 * a ≤ 2 * (nearest w o * c) + c)
nearest-half a c w r Ordering.lt e l h = (omega arith, omega arith)
nearest-half a c w r Ordering.eq e l h = go (dec_lt (w % 2) 1)
  where
    go : Dec (w % 2 < 1) → (2 * ((w + w % 2) * c) ≤ 2 * a + c) × (2 * a ≤ 2 * ((w + w % 2) * c) + c)
    go (yes z) = let k : w + w % 2 ≡ w = omega arith in rw k (omega arith, omega arith)
    go (no z) = let k : w + w % 2 ≡ w + 1 = omega arith in rw (k, add-mul w 1 c, one-mul c) (omega arith, omega arith)
nearest-half a c w r Ordering.gt e l h = let k : suc w ≡ w + 1 = omega arith in rw (k, add-mul w 1 c, one-mul c) (omega arith, omega arith)

pub closest_near : (a c : ℕ) → 0 < c → (2 * (closest a c * c) ≤ 2 * a + c) × (2 * a ≤ 2 * (closest a c * c) + c)
closest_near a c p = nearest-half a c (a / c) (a % c) (compare (a % c * 2) c) (div-add-mod' a c) (mod-lt a p) (compared (a % c * 2) c)

-- how many digits there are at least
pub size_gt : (n j : ℕ) → 2 ^ j ≤ n → j < size n
size_gt n j h = lt_of_not-le (λ (g : size n ≤ j). not-le_of_lt (lt_of_lt_of_le (size-lt n) (pow_mono g)) h)
