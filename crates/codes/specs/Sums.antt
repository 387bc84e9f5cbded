-- Between functions: what they promise one another. No contract of an entry and no theorem rests on this file.
-- The sums of a part of a row, with one code more, and of two parts that follow each other.
use Rattle.std.specs.Prelude.{List, ◌≡◌, cond, ◌&&◌, ℕ, ◌+◌, ◌*◌, ◌≤◌, ℤ, pos, nat_abs, ◌+ℤ◌, ◌*ℤ◌, length, ltb, leb}
use Rattle.codes.specs.declared.Check.{Check}
use Rattle.codes.specs.declared.Sums.{Sums}
use Rattle.codes.specs.Codes.{part, dot, squares, within}

-- The code x at place j of a part, 0 at the places before 17 - k.
abbrev pub masked_at : ℕ → ℕ → ℤ → ℤ
masked_at j k x = cond (ltb (j + k) 17) (pos 0) x

-- Of the row and the query, both from place i on: d is the dot product of n codes.
pub record Dotted (n : ℕ) (xs ys : List ℤ) (i : ℕ) (d : ℤ) : Type 0 where
  pub row : length ys ≡ length xs
  pub query : i + n ≤ length ys
  pub is : d ≡ dot (part n xs i) (part n ys i)
  pub size : nat_abs d ≤ 16384 * n

-- What is read of n codes, from place i on.
pub record Checked (levels n : ℕ) (xs : List ℤ) (i : ℕ) (r : Check) : Type 0 where
  pub squared : r.squares ≡ squares (part n xs i)
  pub size : r.squares ≤ 16384 * n
  pub whole : r.whole ≡ within levels (part n xs i)

pub record Summed (levels n : ℕ) (xs ys : List ℤ) (i : ℕ) (r : Sums) : Type 0 where
  pub dotted : Dotted n xs ys i r.dot
  pub checked : Checked levels n xs i r.check

-- The code x more.
pub record CodeChecked (levels : ℕ) (x : ℤ) (s r : Check) : Type 0 where
  pub squared : r.squares ≡ s.squares + nat_abs x * nat_abs x
  pub size : r.squares ≤ s.squares + 16384
  pub whole : r.whole ≡ (s.whole && leb (nat_abs x) levels)

-- The code x and the query's y more.
pub record CodeAdded (levels : ℕ) (x y : ℤ) (s r : Sums) : Type 0 where
  pub dotted : r.dot ≡ s.dot +ℤ x *ℤ y
  pub size : nat_abs (x *ℤ y) ≤ 16384
  pub checked : CodeChecked levels x s.check r.check

-- Two parts that follow each other.
pub record ChecksAdded (a b r : Check) : Type 0 where
  pub squared : r.squares ≡ a.squares + b.squares
  pub whole : r.whole ≡ (a.whole && b.whole)

pub record SumsAdded (a b r : Sums) : Type 0 where
  pub dotted : r.dot ≡ a.dot +ℤ b.dot
  pub size : nat_abs r.dot ≤ nat_abs a.dot + nat_abs b.dot
  pub checked : ChecksAdded a.check b.check r.check
