-- Document 01, The arithmetic: "Square root is IEEE 754's: scale the input by an even power of two to a whole V from
-- 2^104 to below 2^106; the significand is the m from 2^52 to below 2^53 with (2m - 1)² < 4V < (2m + 1)². +0 gives +0."
-- First as a relation in these words, then as a function that can be computed. That the function meets the relation,
-- and that nothing else does, is proved.
use Rattle.std.specs.Prelude.{ℕ, zero, suc, ◌+◌, ◌-◌, ◌*◌, ◌/◌, ◌^◌, ◌≤◌, ◌<◌, ◌≡◌, true, false, not, cond, T, leb, Float}
use Rattle.std.specs.Float.{nan, inf, fin, binary64}
use Rattle.std.specs.Float.Ieee.{to_bits, is_nan, up, down, size, odd}
use Rattle.std.specs.Float.Ieee.Exact.{HasValue}
use Rattle.std.specs.Float.Ieee.Positive.{num, den}

-- ---- the relation

-- "(2m - 1)² < 4V < (2m + 1)²": m is the whole number nearest to the root of v. A tie is impossible, since 4v is even
-- and each square is odd.
pub record Near (v m : ℕ) : Type 0 where
  pub under : (2 * m - 1) * (2 * m - 1) < 4 * v
  pub over : 4 * v < (2 * m + 1) * (2 * m + 1)

-- r is the root of a positive x. Counted in units of 2^-2148, x = num x / den x is v * 2^(2j), with v from 2^104 to
-- below 2^106; m, from 2^52 to below 2^53, is the whole number nearest to the root of v; and r is m * 2^j in units of
-- 2^-1074. The range of v fixes j.
pub record Root (x r : Float) : Type 0 where
  pub v : ℕ
  pub j : ℕ
  pub m : ℕ
  pub scaled : num x * 2 ^ 2148 ≡ v * (2 ^ (2 * j) * den x)
  pub low : 2 ^ 104 ≤ v
  pub high : v < 2 ^ 106
  pub near : Near v m
  pub full : 2 ^ 52 ≤ m
  pub digits : m < 2 ^ 53
  pub value : HasValue r false (m * 2 ^ j) (2 ^ 1074)

-- every input: "+0 gives +0", as -0 gives -0; a NaN or a number below 0 gives a NaN; +inf gives +inf
abbrev pub IsRoot : Float → Float → Type 0
IsRoot nan r = r ≡ nan
IsRoot (inf s) r = r ≡ cond s nan (inf s)
IsRoot (fin s zero e) r = r ≡ fin s zero e
IsRoot (fin true (suc m) e) r = r ≡ nan
IsRoot (fin false (suc m) e) r = Root (fin false (suc m) e) r

-- what the code finds of x first: it is d * 2 ^ e in units of 2 ^ -2148, and d has 53 digits
pub record Scale (x : Float) (d e : ℕ) : Type 0 where
  pub full : 2 ^ 52 ≤ d
  pub digits : d < 2 ^ 53
  pub low : 1022 ≤ e
  pub high : e ≤ 3119
  pub value : HasValue x false (d * 2 ^ e) (2 ^ 2148)

-- what the code asks of x before it takes the quick way: a positive normal number
pub record Ordinary (x : Float) : Type 0 where
  pub number : T (not (is_nan x))
  pub low : 2 ^ 52 ≤ to_bits binary64 x
  pub high : to_bits binary64 x < 2047 * 2 ^ 52

-- ---- the function

-- r or r + 1: r + 1 where its square is at most v
unfoldable pub next : ℕ → ℕ → ℕ
next v r = cond (leb ((r + 1) * (r + 1)) v) (r + 1) r

-- the whole part of the root of a v below 4 ^ k, a binary digit at a time
unfoldable pub floor_root : ℕ → ℕ → ℕ
unfolding next
floor_root zero v = 0
floor_root (suc k) v = next v (2 * floor_root k (v / 4))

-- r or r + 1: which of the two is nearer to the root of v
unfoldable pub closer : ℕ → ℕ → ℕ
closer v r = cond (leb v (r * r + r)) r (r + 1)

-- the root of n units of 2 ^ -2148: n is brought to a v of 105 or 106 digits
unfoldable pub root_of : ℕ → Float
unfolding size odd floor_root closer
root_of n = let j = (size n - 105) / 2 in let v = n / 2 ^ (2 * j) in odd 53 false (closer v (floor_root 53 v)) j 1074

unfoldable pub sqrt_of : Float → Float
unfolding root_of
sqrt_of nan = nan
sqrt_of (inf s) = cond s nan (inf s)
sqrt_of (fin s zero e) = fin s zero e
sqrt_of (fin true (suc m) e) = nan
sqrt_of (fin false (suc m) e) = root_of (suc m * up e * 2 ^ 2148 / down e)
