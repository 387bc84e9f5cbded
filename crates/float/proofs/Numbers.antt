-- Numbers that are no NaN: which operations give one, that their order is total, and what the hold in a range and the
-- floor at 0 do.
use mathlib.Core.Path.{◌≡◌, refl, sym, subst}
use mathlib.Core.Logic.{◌⊎◌, inl, inr}
use mathlib.Core.Bool.{Bool, true, false, not, ◌&&◌, ◌||◌, beq, cond, true≢false}
use Prim.Native.Nat.{ℕ, zero, suc, ◌+◌, ◌-◌, ◌*◌, ◌≤◌, ◌<◌}
use native.Mathlib.Nat.{zero-mul, mul-pos, zero-lt-suc}
use native.Mathlib.Omega.{arith}
use lib.Dec.{T, ltb, eqb}
use lib.Ieee.{Float, nan, inf, fin, Format, up, down, round, sum, neg, add, sub, mul, div, lt, le, eq, fits, unlike, below, level, is_nan}
use lib.Ieee.Fits.{up_pos, sub-fits}
use lib.Ieee.Scale.{finite}
use lib.Ieee.Positive.{num, den}
use borrow.Author.Tests.{ltb-false, lt-ltb, eq-eqb}
use Rattle.le.proofs.Chain.{by}
use Rattle.float.specs.Values.{plus_zero, two}
use Rattle.float.specs.Hold.{max_zero, clamp}
use Rattle.float.specs.Order.{negative}
use Rattle.float.proofs.BitLaws.{finite_number}
use Rattle.float.proofs.Bounds.{mul_is, div_is, round_number}
use Rattle.float.proofs.Singles.{zero_is}
use Rattle.float.proofs.Additions.{minus_zero, never_minus}

-- ---- what gives a number
pub mul_number : (f : Format) (x y : Float) → T (finite x) → T (finite y) → T (not (is_nan (mul f x y)))
mul_number f x y h k = rw (mul_is f x y h k) (round_number f (unlike (negative x) (negative y)) (num x * num y) (den x * den y))

pub div_number : (f : Format) (x y : Float) → T (finite x) → T (finite y) → 0 < num y → T (not (is_nan (div f x y)))
div_number f x y h k p = rw (div_is f x y h k p) (round_number f (unlike (negative x) (negative y)) (num x * den y) (num y * den x))

cond_number : (b : Bool) (x y : Float) → T (not (is_nan x)) → T (not (is_nan y)) → T (not (is_nan (cond b x y)))
cond_number true x y h k = h
cond_number false x y h k = k

sum_number : (f : Format) (s : Bool) (a : ℕ) (t : Bool) (b c : ℕ) → T (not (is_nan (sum f s a t b c)))
unfolding sum
sum_number f s a t b c =
    cond_number (beq s t) (round f s (a + b) c) (cond (ltb a b) (round f t (b - a) c) (round f (s && ltb b a) (a - b) c)) (round_number f s (a + b) c)
    (cond_number (ltb a b) (round f t (b - a) c) (round f (s && ltb b a) (a - b) c) (round_number f t (b - a) c) (round_number f (s && ltb b a) (a - b) c))

pub add_number : (f : Format) (x y : Float) → T (finite x) → T (not (is_nan y)) → T (not (is_nan (add f x y)))
unfolding add is_nan
add_number f nan y h k = absurd h
add_number f (inf s) y h k = absurd h
add_number f (fin s m e) nan h k = absurd k
add_number f (fin s m e) (inf t) h k = tt
add_number f (fin s m e) (fin t n d) h k = sum_number f s (m * up e * down d) t (n * up d * down e) (down e * down d)

pub neg_number : (x : Float) → T (not (is_nan x)) → T (not (is_nan (neg x)))
unfolding neg is_nan
neg_number nan h = h
neg_number (inf s) h = tt
neg_number (fin s m e) h = tt

pub sub_number : (f : Format) (x y : Float) → T (finite x) → T (not (is_nan y)) → T (not (is_nan (sub f x y)))
unfolding sub
sub_number f x y h k = add_number f x (neg y) h (neg_number y k)

-- ---- of two numbers, one is at most the other
or_equal : (a b : ℕ) → a ≤ b → T (ltb a b || (eqb a b && true))
or_equal a b h = by (ltb a b) (λ e. rw e tt) (λ e. rw (e, eq-eqb a b (omega (arith, ltb-false a b e))) tt)

either : (s : Bool) (a : ℕ) (t : Bool) (b : ℕ) → below s a t b ≡ false → T (below t b s a || level t b s a)
either false a false b h = or_equal b a (ltb-false a b h)
either false a true b h =
    by (ltb 0 (b + a)) (λ e. rw e tt)
    (λ e. let k = ltb-false 0 (b + a) e in rw (e, eq-eqb b a (omega arith), eq-eqb b 0 (omega arith)) tt)
either true a false b h = let k = ltb-false 0 (a + b) h in rw (eq-eqb b a (omega arith), eq-eqb b 0 (omega arith)) tt
either true a true b h = by (ltb a b) (λ e. rw e tt) (λ e. rw (e, eq-eqb b a (omega (arith, ltb-false a b e, ltb-false b a h))) tt)

pub le_of_not_lt : (x y : Float) → T (not (is_nan x)) → T (not (is_nan y)) → lt x y ≡ false → T (le y x)
unfolding le is_nan
le_of_not_lt nan y p q h = absurd p
le_of_not_lt (inf s) nan p q h = absurd q
le_of_not_lt (inf true) (inf true) p q h = tt
le_of_not_lt (inf true) (inf false) p q h = absurd (true≢false h)
le_of_not_lt (inf false) (inf true) p q h = tt
le_of_not_lt (inf false) (inf false) p q h = tt
le_of_not_lt (inf true) (fin t n d) p q h = absurd (true≢false h)
le_of_not_lt (inf false) (fin t n d) p q h = tt
le_of_not_lt (fin s m e) nan p q h = absurd q
le_of_not_lt (fin s m e) (inf true) p q h = tt
le_of_not_lt (fin s m e) (inf false) p q h = absurd (true≢false h)
le_of_not_lt (fin s m e) (fin t n d) p q h = either s (m * up e * down d) t (n * up d * down e) h

-- ---- held in a range
pub record In (lo hi x : Float) : Type 0 where
  pub fine : T (finite x)
  pub low : T (le lo x)
  pub high : T (le x hi)

between_fine : (lo hi x : Float) → T (finite lo) → T (finite hi) → T (le lo x) → T (le x hi) → T (finite x)
unfolding le
between_fine nan hi x a b h k = absurd a
between_fine (inf s) hi x a b h k = absurd a
between_fine (fin s m e) nan x a b h k = absurd b
between_fine (fin s m e) (inf t) x a b h k = absurd b
between_fine (fin s m e) (fin t n d) nan a b h k = h
between_fine (fin s m e) (fin t n d) (inf true) a b h k = h
between_fine (fin s m e) (fin t n d) (inf false) a b h k = k
between_fine (fin s m e) (fin t n d) (fin u o g) a b h k = tt

pub clamp_in : (lo hi x : Float) → In lo hi lo → In lo hi hi → T (not (is_nan x)) → In lo hi (clamp lo hi x)
unfolding clamp
clamp_in lo hi x a b n =
    by (lt x lo) (λ e. rw e a)
    (λ e. rw e (by (lt hi x) (λ d. rw d b)
    (λ d.
    let l = le_of_not_lt x lo n (finite_number lo a.fine) e in
    let h = le_of_not_lt hi x (finite_number hi b.fine) n d in
    rw d (record { fine = between_fine lo hi x a.fine b.fine l h; low = l; high = h }))))

pub hold_in : (x : Float) → T (not (is_nan x)) → In plus_zero two (clamp plus_zero two x)
unfolding le
hold_in x n = clamp_in plus_zero two x (record { fine = tt; low = tt; high = tt }) (record { fine = tt; low = tt; high = tt }) n

pub clamp_nan : (lo hi : Float) → clamp lo hi nan ≡ nan
unfolding clamp lt
clamp_nan lo nan = refl
clamp_nan lo (inf s) = refl
clamp_nan lo (fin s m e) = refl

-- ---- at least 0
pub max_zero_number : (x : Float) → T (not (is_nan (max_zero x)))
unfolding max_zero lt is_nan
max_zero_number nan = tt
max_zero_number (inf true) = tt
max_zero_number (inf false) = tt
max_zero_number (fin s m e) = cond_number (below false (0 * 1 * down e) s (m * up e * 1)) (fin s m e) plus_zero tt tt

pub max_zero_plain : (x : Float) → negative (max_zero x) ≡ false
unfolding max_zero lt
max_zero_plain nan = refl
max_zero_plain (inf true) = refl
max_zero_plain (inf false) = refl
max_zero_plain (fin true m e) = refl
max_zero_plain (fin false m e) = pick (ltb (0 * 1 * down e) (m * up e * 1))
  where
    pick : (b : Bool) → negative (cond b (fin false m e) plus_zero) ≡ false
    pick true = refl
    pick false = refl

-- r is a maximum of x and y as IEEE 754-2008's maxNum, Rust's `f64::max`, has it: of a NaN and a number the number,
-- else the larger. Of two that compare equal, as -0 and +0 do, it may be either.
pub record MaxNum (x y r : Float) : Type 0 where
  pub nan_first : is_nan x ≡ true → r ≡ y
  pub nan_second : is_nan y ≡ true → r ≡ x
  pub below : lt x y ≡ true → r ≡ y
  pub above : lt y x ≡ true → r ≡ x
  pub equal : eq x y ≡ true → (r ≡ x) ⊎ (r ≡ y)

-- so `max_zero` is that maximum of x and +0, but that at -0 the maximum may be -0
pub max_zero_is : (f : Format) (x r : Float) → T (fits f x) → (x ≡ minus_zero → ⊥) → MaxNum x plus_zero r → r ≡ max_zero x
unfolding max_zero lt
max_zero_is f nan r t n h = h.nan_first (unfold is_nan in refl)
max_zero_is f (inf true) r t n h = h.below refl
max_zero_is f (inf false) r t n h = h.above refl
max_zero_is f (fin true zero e) r t n h = absurd (n (zero_is f true e t))
max_zero_is f (fin false zero e) r t n h =
    let z = zero_is f false e t in
    subst (λ (x : Float). r ≡ max_zero x) (sym z) (same (subst (λ (x : Float). MaxNum x plus_zero r) z h))
  where
    same : MaxNum plus_zero plus_zero r → r ≡ plus_zero
    same g = elim (g.equal (unfold eq in refl)) [ inl z ↦ z | inr z ↦ z ]
max_zero_is f (fin true (suc m) e) r t n h =
    let k : 0 < suc m * up e = mul-pos (zero-lt-suc m) (up_pos e) in
    h.below (rw (zero-mul (down e)) (lt-ltb 0 (suc m * up e * 1 + 0) (omega arith)))
max_zero_is f (fin false (suc m) e) r t n h =
    let k : 0 < suc m * up e = mul-pos (zero-lt-suc m) (up_pos e) in
    let l : lt plus_zero (fin false (suc m) e) ≡ true = rw (zero-mul (down e)) (lt-ltb 0 (suc m * up e * 1) (omega arith)) in
    rw l (h.above l)

-- and on what document 01 floors at 0, two values that have no sign less a third, it is that maximum
pub max_zero_sub : (f : Format) (x y z r : Float) → negative x ≡ false → negative y ≡ false → T (fits f z)
    → MaxNum (sub f (add f x y) z) plus_zero r → r ≡ max_zero (sub f (add f x y) z)
max_zero_sub f x y z r p q t h = max_zero_is f (sub f (add f x y) z) r (sub-fits f (add f x y) z) (never_minus f x y z p q t) h
