-- Decimal text: the io library's digits are the definition's, reading it back gives the number, there is no zero in front, and
-- a number below 10 ^ k has at most k digits.
use mathlib.Core.Path.{◌≡◌, refl, sym, ap, ◌∙◌}
use mathlib.Core.Logic.{⊎_elim}
use mathlib.Core.List.{List, [], ◌∷◌, ◌++◌}
use Prim.Native.Nat.{ℕ, zero, suc, ◌+◌, ◌-◌, ◌*◌, ◌/◌, ◌%◌, ◌^◌, ◌<◌, ◌≤◌}
use native.Mathlib.Nat.{pow-suc, one-le-pow}
use native.Mathlib.Omega.{arith}
use lib.ListN.{length, get_or, length-append}
use borrow.Author.Tests.{lt-ltb, le-ltb}
use Rattle.le.proofs.Chain.{lt_or_le}
use Rattle.io.specs.Digits.{last_digits, hex_digit_ascii, IsDigitCount}
use Rattle.text.specs.Digits.{decimal_in, decimal, digit_value, read_from}

-- ---- one digit off

in_small : (k n : ℕ) → n < 10 → decimal_in (suc k) n ≡ (48 + n) ∷ []
unfolding decimal_in
in_small k n h = rw (lt-ltb n 10 h)

in_more : (k n : ℕ) → 10 ≤ n → decimal_in (suc k) n ≡ decimal_in k (n / 10) ++ ((48 + n % 10) ∷ [])
unfolding decimal_in
in_more k n h = rw (le-ltb n 10 h)

-- any bound above the number serves
enough : (j k n : ℕ) → n < j → n < k → decimal_in j n ≡ decimal_in k n
enough zero k n h g = absurd (omega arith)
enough (suc j) zero n h g = absurd (omega arith)
enough (suc j) (suc k) n h g =
    ⊎_elim
    (λ l. in_small j n l ∙ sym (in_small k n l))
    (λ l.
    let p : n / 10 < j = omega arith in
    let q : n / 10 < k = omega arith in
    in_more j n l ∙ ap (λ (s : List ℕ). s ++ ((48 + n % 10) ∷ [])) (enough j k (n / 10) p q) ∙ sym (in_more k n l))
    (lt_or_le n 10)

decimal-small : (n : ℕ) → n < 10 → decimal n ≡ (48 + n) ∷ []
unfolding decimal
decimal-small n h = in_small n n h

decimal-more : (n : ℕ) → 10 ≤ n → decimal n ≡ decimal (n / 10) ++ ((48 + n % 10) ∷ [])
unfolding decimal
decimal-more n h =
    let p : n / 10 < n = omega arith in
    let q : n / 10 < suc (n / 10) = omega arith in
    in_more n n h ∙ ap (λ (s : List ℕ). s ++ ((48 + n % 10) ∷ [])) (enough n (suc (n / 10)) (n / 10) p q)

-- by the number of digits: what holds of one digit, and goes on to one more
module _ (P : ℕ → Type 0) (one : (n : ℕ) → n < 10 → P n) (more : (n : ℕ) → 10 ≤ n → P (n / 10) → P n) where
  below : (k n : ℕ) → n < k → P n
  below zero n h = absurd (omega arith)
  below (suc k) n h = ⊎_elim (one n) (λ l. let p : n / 10 < k = omega arith in more n l (below k (n / 10) p)) (lt_or_le n 10)

  by_digits : (n : ℕ) → P n
  by_digits n = below (suc n) n (omega arith)

-- ---- what it stands for

pub read_append : (b v : ℕ) (s t : List ℕ) → read_from b v (s ++ t) ≡ read_from b (read_from b v s) t
unfolding read_from
read_append b v [] t = refl
read_append b v (c ∷ s) t = read_append b (b * v + digit_value c) s t

low_value : (d : ℕ) → d < 10 → digit_value (48 + d) ≡ d
unfolding digit_value
low_value d h = rw (lt-ltb (48 + d) 58 (omega arith)) (omega arith)

pub read_decimal : (n : ℕ) → read_from 10 0 (decimal n) ≡ n
unfolding read_from
read_decimal =
    by_digits
    (λ n. read_from 10 0 (decimal n) ≡ n)
    (λ n h. rw (decimal-small n h, low_value n h) (omega arith))
    (λ n h e.
    let p : n % 10 < 10 = omega arith in
    rw (decimal-more n h, read_append 10 0 (decimal (n / 10)) ((48 + n % 10) ∷ []), e, low_value (n % 10) p) (omega arith))

-- ---- its digits: each is one, and the first is no 0 but for the number 0

abbrev pub Every : (ℕ → Type 0) → List ℕ → Type 0
Every P [] = Unit
Every P (c ∷ s) = P c × Every P s

pub every_append : (P : ℕ → Type 0) (s t : List ℕ) → Every P s → Every P t → Every P (s ++ t)
every_append P [] t h g = g
every_append P (c ∷ s) t h g = (h.0, every_append P s t h.1 g)

abbrev pub IsDigit : ℕ → Type 0
IsDigit c = (48 ≤ c) × (c < 58)

pub all_digits : (n : ℕ) → Every IsDigit (decimal n)
all_digits =
    by_digits
    (λ n. Every IsDigit (decimal n))
    (λ n h. rw (decimal-small n h) ((omega arith, omega arith), tt))
    (λ n h e. rw (decimal-more n h) (every_append IsDigit (decimal (n / 10)) ((48 + n % 10) ∷ []) e ((omega arith, omega arith), tt)))

first-append : (s : List ℕ) (c x : ℕ) → x < get_or s 0 0 → x < get_or (s ++ (c ∷ [])) 0 0
first-append [] c x h = absurd (omega arith)
first-append (d ∷ s) c x h = h

pub no_leading_zero : (n : ℕ) → 0 < n → 48 < get_or (decimal n) 0 0
no_leading_zero =
    by_digits
    (λ n. 0 < n → 48 < get_or (decimal n) 0 0)
    (λ n h p. rw (decimal-small n h) (omega arith))
    (λ n h e p. rw (decimal-more n h) (first-append (decimal (n / 10)) (48 + n % 10) 48 (e (omega arith))))

-- ---- how many

length_one : (k n : ℕ) → n < 10 → length (decimal n) ≤ suc k
length_one k n h = rw (decimal-small n h) (omega arith)

pub length_decimal : (k n : ℕ) → n < 10 ^ suc k → length (decimal n) ≤ suc k
length_decimal zero n h = length_one zero n (omega arith)
length_decimal (suc k) n h =
    let p : n / 10 < 10 ^ suc k = omega (arith, pow-suc 10 (suc k)) in
    ⊎_elim
    (length_one (suc k) n)
    (λ l. rw (decimal-more n l, length-append (decimal (n / 10)) ((48 + n % 10) ∷ [])) (omega (arith, length_decimal k (n / 10) p)))
    (lt_or_le n 10)

-- a u64 has at most twenty
pub length_u64 : (n : ℕ) → n < 2 ^ 64 → length (decimal n) ≤ 20
length_u64 n h = length_decimal 19 n (omega arith)

-- ---- the io library's digits, the fewest that hold the number

io_digit : (d : ℕ) → d < 10 → hex_digit_ascii d ≡ 48 + d
io_digit d h = rw (lt-ltb d 10 h)

pub io_decimal : (k n : ℕ) → IsDigitCount 10 1 n k → last_digits 10 k n ≡ decimal n
io_decimal zero n f = absurd (omega arith)
io_decimal (suc zero) n f =
    let p : n < 10 = omega arith in
    let e : n % 10 ≡ n = omega arith in
    rw (e, io_digit n p) (sym (decimal-small n p))
io_decimal (suc (suc k)) n f =
    let q = pow-suc 10 k in
    let r = pow-suc 10 (suc k) in
    let o = one-le-pow k 10 (omega arith) in
    let i : suc (suc k) - 1 ≡ suc k = omega arith in
    let j : suc k - 1 ≡ k = omega arith in
    let b : 10 ^ suc k ≤ n = rw i at (f.2 (omega arith)) in
    let h : 10 ≤ n = omega arith in
    let g : IsDigitCount 10 1 (n / 10) (suc k) = (omega arith, omega arith, λ _. rw j (omega arith)) in
    let p : n % 10 < 10 = omega arith in
    rw (io_decimal (suc k) (n / 10) g, io_digit (n % 10) p) (sym (decimal-more n h))
