-- A number as text in ASCII (document 01, Contracts and proved cases: the lines that the list program prints; readings R37:
-- "hexadecimal in 16 lower-case digits").
use Rattle.std.specs.Prelude.{ℕ, zero, suc, ◌+◌, ◌-◌, ◌*◌, ◌/◌, ◌%◌, cond, List, [], ◌∷◌, ◌++◌, ltb}

-- the decimal digits of n, the most significant first, with no zero in front; of 0 the one digit 0. The first number only bounds
-- the recursion: any that is greater than n gives the same
unfoldable pub decimal_in : ℕ → ℕ → List ℕ
decimal_in zero n = []
decimal_in (suc k) n = cond (ltb n 10) ((48 + n) ∷ []) (decimal_in k (n / 10) ++ ((48 + n % 10) ∷ []))

unfoldable pub decimal : ℕ → List ℕ
decimal n = decimal_in (suc n) n

-- `0` to `9`, then `a` to `f`
unfoldable pub hex_digit : ℕ → ℕ
hex_digit d = cond (ltb d 10) (48 + d) (87 + d)

-- the last k hexadecimal digits of n, the most significant first
unfoldable pub hex_digits : ℕ → ℕ → List ℕ
hex_digits zero n = []
hex_digits (suc k) n = hex_digits k (n / 16) ++ (hex_digit (n % 16) ∷ [])

unfoldable pub hex16 : ℕ → List ℕ
hex16 n = hex_digits 16 n

-- what a digit stands for, and the number that text in base b stands for when `v` was read before it
unfoldable pub digit_value : ℕ → ℕ
digit_value c = cond (ltb c 58) (c - 48) (c - 87)

unfoldable pub read_from : ℕ → ℕ → List ℕ → ℕ
read_from b v [] = v
read_from b v (c ∷ s) = read_from b (b * v + digit_value c) s
