-- Hexadecimal text: the io library's digits are the definition's, there are sixteen, each `0` to `9` or `a` to `f`, and reading them back gives
-- the number.
use mathlib.Core.Path.{◌≡◌, refl, ◌∙◌}
use mathlib.Core.List.{[], ◌∷◌}
use mathlib.Core.Logic.{◌⊎◌, inl, inr, ⊎_elim}
use Prim.Native.Nat.{ℕ, zero, suc, ◌+◌, ◌-◌, ◌/◌, ◌%◌, ◌^◌, ◌<◌, ◌≤◌}
use native.Mathlib.Nat.{pow-suc, one-le-pow, pow-le-pow_right, mod-eq_of_lt}
use lib.Arith.{mod-mul}
use borrow.Author.Tests.{lt-ltb, le-ltb}
use Rattle.le.proofs.Chain.{lt_or_le}
use native.Mathlib.Omega.{arith}
use lib.ListN.{length, length-append}
use Rattle.io.specs.Digits.{last_digits, IsDigitCount}
use Rattle.text.specs.Digits.{hex_digit, hex_digits, hex16, read_from, digit_value}
use Rattle.text.proofs.Decimal.{Every, every_append, IsDigit, read_append}

io_hex : (k n : ℕ) → last_digits 16 k n ≡ hex_digits k n
unfolding hex_digits hex_digit
io_hex zero n = refl
io_hex (suc k) n = rw (io_hex k (n / 16))

length_hex : (k n : ℕ) → length (hex_digits k n) ≡ k
unfolding hex_digits
length_hex zero n = refl
length_hex (suc k) n = rw (length-append (hex_digits k (n / 16)) (hex_digit (n % 16) ∷ []), length_hex k (n / 16)) (omega arith)

pub length_hex16 : (n : ℕ) → length (hex16 n) ≡ 16
unfolding hex16
length_hex16 n = length_hex 16 n

-- sixteen digits are the fewest that hold a u64, where sixteen are asked for
sixteen : (n k : ℕ) → n < 2 ^ 64 → IsDigitCount 16 16 n k → k ≡ 16
sixteen n k h f =
    ⊎_elim
    (λ l.
    let p : 16 ^ (k - 1) ≤ n = f.2 l in
    let o : 1 ≤ 16 = omega arith in
    let e : 16 ≤ k - 1 = omega arith in
    let q : 16 ^ 16 ≤ 16 ^ (k - 1) = pow-le-pow_right o e in
    absurd (omega arith))
    (λ l. omega arith)
    (lt_or_le 16 k)

pub io_hex16 : (n k : ℕ) → n < 2 ^ 64 → IsDigitCount 16 16 n k → last_digits 16 k n ≡ hex16 n
unfolding hex16
io_hex16 n k h f = io_hex k n ∙ rw (sixteen n k h f)

-- ---- its digits: lower case

abbrev pub IsHexDigit : ℕ → Type 0
IsHexDigit c = IsDigit c ⊎ ((97 ≤ c) × (c < 103))

is_hex : (d : ℕ) → d < 16 → IsHexDigit (hex_digit d)
unfolding hex_digit
is_hex d h =
    ⊎_elim
    (λ l. rw (lt-ltb d 10 l) (inl (omega arith, omega arith)))
    (λ l. rw (le-ltb d 10 l) (inr (omega arith, omega arith)))
    (lt_or_le d 10)

all_hex : (k n : ℕ) → Every IsHexDigit (hex_digits k n)
unfolding hex_digits
all_hex zero n = tt
all_hex (suc k) n = every_append IsHexDigit (hex_digits k (n / 16)) (hex_digit (n % 16) ∷ []) (all_hex k (n / 16)) (is_hex (n % 16) (omega arith), tt)

pub all-hex16 : (n : ℕ) → Every IsHexDigit (hex16 n)
unfolding hex16
all-hex16 n = all_hex 16 n

-- ---- what it stands for

digit_value_lem : (d : ℕ) → d < 16 → digit_value (hex_digit d) ≡ d
unfolding digit_value hex_digit
digit_value_lem d h =
    ⊎_elim
    (λ l. rw (lt-ltb d 10 l, lt-ltb (48 + d) 58 (omega arith)) (omega arith))
    (λ l. rw (le-ltb d 10 l, le-ltb (87 + d) 58 (omega arith)) (omega arith))
    (lt_or_le d 10)

read_digits : (k n : ℕ) → read_from 16 0 (hex_digits k n) ≡ n % 16 ^ k
unfolding hex_digits read_from
read_digits zero n = omega arith
read_digits (suc k) n =
    let p : 0 < 16 = omega arith in
    let q : n % 16 < 16 = omega arith in
    let m = mod-mul n (one-le-pow k 16 p) p in
    rw (
      read_append 16 0 (hex_digits k (n / 16)) (hex_digit (n % 16) ∷ []),
      read_digits k (n / 16),
      digit_value_lem (n % 16) q,
      pow-suc 16 k,
      m,
    )
    (omega arith)

pub read_hex16 : (n : ℕ) → n < 2 ^ 64 → read_from 16 0 (hex16 n) ≡ n
unfolding hex16
read_hex16 n h = read_digits 16 n ∙ mod-eq_of_lt h
