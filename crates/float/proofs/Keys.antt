-- The key's order is totalOrder's, on every number that is no NaN, the infinities among them; and the way back from a
-- key.
use mathlib.Core.Path.{◌≡◌, refl, ap, sym, ◌∙◌}
use mathlib.Core.Bool.{Bool, true, false, not, true≢false, false≢true}
use Prim.Native.Nat.{ℕ, ◌+◌, ◌-◌, ◌*◌, ◌%◌, ◌^◌, ◌≤◌, ◌<◌}
use native.Mathlib.Decide.{dec_lt}
use native.Mathlib.Omega.{arith}
use lib.Dec.{T, ltb, leb}
use borrow.Author.Tests.{lt-ltb, le-ltb, lt-leb, le-leb, leb-true, ltb-true}
use lib.Ieee.{Float, nan, inf, fin, binary64, up, down, of_bits, to_bits, lt, fits, is_nan}
use lib.Ieee.Bits.{of_bits-to_bits, to_bits-lt}
use Rattle.float.specs.Order.{negative, by_sign, total_below, total_le, key_of, bits_of, keyed}
use Rattle.float.proofs.BitLaws.{number-below, bits-number, finite_number, number_of_lt, number_of_gt}
use Rattle.float.proofs.Within.{Within}
use Rattle.float.proofs.Patterns.{same_ltb, sign_bits, lt_signed}

-- ---- one branch of the definitions
pub key-plus : (b : ℕ) → b < 2 ^ 63 → key_of b ≡ b + 2 ^ 63
unfolding key_of
key-plus b h = rw (lt-ltb b (2 ^ 63) h)

pub key_minus : (b : ℕ) → 2 ^ 63 ≤ b → key_of b ≡ 2 ^ 64 - 1 - b
unfolding key_of
key_minus b h = rw (le-ltb b (2 ^ 63) h)

bits_minus : (k : ℕ) → k < 2 ^ 63 → bits_of k ≡ 2 ^ 64 - 1 - k
unfolding bits_of
bits_minus k h = rw (lt-ltb k (2 ^ 63) h)

bits-plus : (k : ℕ) → 2 ^ 63 ≤ k → bits_of k ≡ k - 2 ^ 63
unfolding bits_of
bits-plus k h = rw (le-ltb k (2 ^ 63) h)

-- ---- there and back
pub bits_key : (b : ℕ) → b < 2 ^ 64 → bits_of (key_of b) ≡ b
bits_key b h = go (dec_lt b (2 ^ 63))
  where
    go : Dec (b < 2 ^ 63) → bits_of (key_of b) ≡ b
    go (yes l) = ap bits_of (key-plus b l) ∙ bits-plus (b + 2 ^ 63) (omega arith) ∙ omega arith
    go (no l) = ap bits_of (key_minus b (omega arith)) ∙ bits_minus (2 ^ 64 - 1 - b) (omega arith) ∙ omega arith

pub key-bits : (k : ℕ) → k < 2 ^ 64 → key_of (bits_of k) ≡ k
key-bits k h = go (dec_lt k (2 ^ 63))
  where
    go : Dec (k < 2 ^ 63) → key_of (bits_of k) ≡ k
    go (yes l) = ap key_of (bits_minus k l) ∙ key_minus (2 ^ 64 - 1 - k) (omega arith) ∙ omega arith
    go (no l) = ap key_of (bits-plus k (omega arith)) ∙ key-plus (k - 2 ^ 63) (omega arith) ∙ omega arith

pub key_lt : (b : ℕ) → b < 2 ^ 64 → key_of b < 2 ^ 64
unfolding key_of
key_lt b h = go (dec_lt b (2 ^ 63))
  where
    go : Dec (b < 2 ^ 63) → key_of b < 2 ^ 64
    go (yes l) = rw (lt-ltb b (2 ^ 63) l) (omega arith)
    go (no l) = rw (le-ltb b (2 ^ 63) (omega arith)) (omega arith)

pub key_injective : (a b : ℕ) → a < 2 ^ 64 → b < 2 ^ 64 → key_of a ≡ key_of b → a ≡ b
key_injective a b h k e = sym (bits_key a h) ∙ ap bits_of e ∙ bits_key b k

-- ---- the order
-- a pattern that is no NaN's
pub record NotNan (b : ℕ) : Type 0 where
  pub word : b < 2 ^ 64
  pub number : b % 2 ^ 63 ≤ 2047 * 2 ^ 52

pub key-order : (a b : ℕ) → NotNan a → NotNan b → ltb (key_of a) (key_of b) ≡ total_below (of_bits binary64 a) (of_bits binary64 b)
unfolding total_below
key-order a b f g =
    rw (bits-number binary64 a f.number, bits-number binary64 b g.number, sign_bits binary64 a f.number, sign_bits binary64 b g.number)
    (go (dec_lt a (2 ^ 63)) (dec_lt b (2 ^ 63)))
  where
    r : Bool
    r = lt (of_bits binary64 a) (of_bits binary64 b)

    go : Dec (a < 2 ^ 63) → Dec (b < 2 ^ 63) → ltb (key_of a) (key_of b) ≡ by_sign (leb (2 ^ 63) a) (leb (2 ^ 63) b) r
    go (yes h) (yes k) =
        let p = lt-leb (2 ^ 63) a h in
        let q = lt-leb (2 ^ 63) b k in
        rw (p, q, key-plus a h, key-plus b k, lt_signed binary64 false a b p q f.number g.number)
        (same_ltb (a % 2 ^ 63) (b % 2 ^ 63) (a + 2 ^ 63) (b + 2 ^ 63) (λ l. omega arith) (λ l. omega arith))
    go (yes h) (no k) =
        rw (lt-leb (2 ^ 63) a h, le-leb (2 ^ 63) b (omega arith), key-plus a h, key_minus b (omega arith)) (le-ltb (a + 2 ^ 63) (2 ^ 64 - 1 - b) (omega arith))
    go (no h) (yes k) =
        rw (le-leb (2 ^ 63) a (omega arith), lt-leb (2 ^ 63) b k, key_minus a (omega arith), key-plus b k) (lt-ltb (2 ^ 64 - 1 - a) (b + 2 ^ 63) (omega arith))
    go (no h) (no k) =
        let p = le-leb (2 ^ 63) a (omega arith) in
        let q = le-leb (2 ^ 63) b (omega arith) in
        rw (p, q, key_minus a (omega arith), key_minus b (omega arith), lt_signed binary64 true a b p q f.number g.number)
        (same_ltb (b % 2 ^ 63) (a % 2 ^ 63) (2 ^ 64 - 1 - a) (2 ^ 64 - 1 - b) (λ l. omega (arith, f.word, g.word)) (λ l. omega (arith, f.word, g.word)))

-- ---- the same over floats
pub not_nan : (x : Float) → T (fits binary64 x) → T (not (is_nan x)) → NotNan (to_bits binary64 x)
not_nan x f n = record { word = to_bits-lt binary64 x f; number = number-below binary64 (to_bits binary64 x) (rw (of_bits-to_bits binary64 x f) n) }

not_ltb : (a b : ℕ) → leb a b ≡ not (ltb b a)
not_ltb a b = go (dec_lt b a)
  where
    go : Dec (b < a) → leb a b ≡ not (ltb b a)
    go (yes h) = rw (lt-leb a b h, lt-ltb b a h)
    go (no h) = rw (le-leb a b (omega arith), le-ltb b a (omega arith))

pub key_below : (x y : Float) → T (fits binary64 x) → T (fits binary64 y) → T (not (is_nan x)) → T (not (is_nan y)) → ltb (keyed x) (keyed y) ≡ total_below x y
key_below x y f g n m =
    rw (of_bits-to_bits binary64 x f, of_bits-to_bits binary64 y g) at
    (key-order (to_bits binary64 x) (to_bits binary64 y) (not_nan x f n) (not_nan y g m))

pub key-le : (x y : Float) → T (fits binary64 x) → T (fits binary64 y) → T (not (is_nan x)) → T (not (is_nan y)) → leb (keyed x) (keyed y) ≡ total_le x y
unfolding total_le
key-le x y f g n m = not_ltb (keyed x) (keyed y) ∙ ap not (key_below y x g f m n)

-- ---- one that is above the number of a key has a greater key
below_of_lt : (x y : Float) → lt x y ≡ true → total_below x y ≡ true
unfolding total_below is_nan lt
below_of_lt nan y h = absurd (false≢true h)
below_of_lt (inf s) nan h = absurd (false≢true h)
below_of_lt (inf true) (inf true) h = h
below_of_lt (inf true) (inf false) h = refl
below_of_lt (inf false) (inf true) h = absurd (false≢true h)
below_of_lt (inf false) (inf false) h = h
below_of_lt (inf true) (fin true n d) h = h
below_of_lt (inf true) (fin false n d) h = refl
below_of_lt (inf false) (fin s n d) h = absurd (false≢true h)
below_of_lt (fin s m e) nan h = absurd (false≢true h)
below_of_lt (fin s m e) (inf true) h = absurd (false≢true h)
below_of_lt (fin true m e) (inf false) h = refl
below_of_lt (fin false m e) (inf false) h = refl
below_of_lt (fin true m e) (fin true n d) h = h
below_of_lt (fin true m e) (fin false n d) h = refl
below_of_lt (fin false m e) (fin true n d) h = absurd (false≢true h)
below_of_lt (fin false m e) (fin false n d) h = h

bits_lt : (k : ℕ) → k < 2 ^ 64 → bits_of k < 2 ^ 64
bits_lt k h = go (dec_lt k (2 ^ 63))
  where
    go : Dec (k < 2 ^ 63) → bits_of k < 2 ^ 64
    go (yes l) = rw (bits_minus k l) (omega arith)
    go (no l) = rw (bits-plus k (omega arith)) (omega arith)

pub key-over : (k : ℕ) (x : Float) → k < 2 ^ 64 → T (fits binary64 x) → lt (of_bits binary64 (bits_of k)) x ≡ true → k < keyed x
key-over k x l f h =
    let b = bits_of k in
    let y = of_bits binary64 b in
    let n : NotNan b = record { word = bits_lt k l; number = number-below binary64 b (number_of_lt y x h) } in
    let o = rw (of_bits-to_bits binary64 x f, key-bits k l) at (key-order b (to_bits binary64 x) n (not_nan x f (number_of_gt y x h))) in
    ltb-true k (keyed x) (o ∙ below_of_lt y x h)

pub keyed_lt : (x : Float) → T (fits binary64 x) → keyed x < 2 ^ 64
keyed_lt x f = key_lt (to_bits binary64 x) (to_bits-lt binary64 x f)

-- a float is known by its key
pub key_back : (x : Float) → T (fits binary64 x) → of_bits binary64 (bits_of (keyed x)) ≡ x
key_back x f = ap (of_bits binary64) (bits_key (to_bits binary64 x) (to_bits-lt binary64 x f)) ∙ of_bits-to_bits binary64 x f

pub key-same : (x y : Float) → T (fits binary64 x) → T (fits binary64 y) → keyed x ≡ keyed y → x ≡ y
key-same x y f g e = sym (key_back x f) ∙ ap (λ (k : ℕ). of_bits binary64 (bits_of k)) e ∙ key_back y g

-- ---- of two that have no sign the larger has the larger key
not_after_lem : (x y : Float) → negative x ≡ false → negative y ≡ false → Within x y → total_le x y ≡ true
unfolding total_le total_below is_nan lt
not_after_lem nan y p q w = absurd w.fine
not_after_lem (inf s) y p q w = absurd w.fine
not_after_lem (fin s m e) nan p q w = absurd w.bound
not_after_lem (fin s m e) (inf t) p q w = absurd w.bound
not_after_lem (fin true m e) (fin t n d) p q w = absurd (true≢false p)
not_after_lem (fin false m e) (fin true n d) p q w = absurd (true≢false q)
not_after_lem (fin false m e) (fin false n d) p q w = rw (le-ltb (n * up d * down e) (m * up e * down d) w.order)

pub key-within : (x y : Float) → T (fits binary64 x) → T (fits binary64 y) → negative x ≡ false → negative y ≡ false → Within x y → keyed x ≤ keyed y
key-within x y f g p q w =
    leb-true (keyed x) (keyed y) (key-le x y f g (finite_number x w.fine) (finite_number y w.bound) ∙ not_after_lem x y p q w)
