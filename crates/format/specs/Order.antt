-- Tests in the order of document 01's tables ("Manifest checks run in the order `read_manifest` reads", "5 for the lowest bad row").
use Rattle.std.specs.Prelude.{Bool, cond, ℕ, zero, suc, ◌+◌, ◌-◌, eqb}
use Rattle.config.specs.Refusal.{Refusal, none}

-- a test and the number of its refusal, before the rest of the table; 0 is no refusal
abbrev pub unless : Bool → ℕ → ℕ → ℕ
unless ok number rest = cond ok rest number

-- an earlier table's number, before the rest
abbrev pub or_else : ℕ → ℕ → ℕ
or_else number rest = cond (eqb number 0) rest number

-- the first number from i on that fails, of k of them; i + k where none does
unfoldable pub first_from : (ℕ → Bool) → ℕ → ℕ → ℕ
first_from ok zero i = i
first_from ok (suc k) i = cond (ok i) (first_from ok k (i + 1)) i

-- the first below n, or n
abbrev pub first_bad : (ℕ → Bool) → ℕ → ℕ
first_bad ok n = first_from ok n 0

-- the first from i on below n, or n
abbrev pub next_bad : (ℕ → Bool) → ℕ → ℕ → ℕ
next_bad ok n i = first_from ok (n - i) i

-- the first of n that is refused, and none where none is
unfoldable pub first_refusal : (ℕ → Refusal) → ℕ → Refusal
first_refusal f n = let bad = first_bad (λ i. eqb (f i).number 0) n in cond (eqb bad n) none (f bad)
