-- The eligible rows of a library. Document 01, The report: "the eligible count is that of the library's rows whose id
-- is among them, each once."
use Rattle.std.specs.Prelude.{Bool, cond, List, [], ◌∷◌, ◌++◌, ℕ, zero, suc, ◌<◌, length, get_or}

-- the rows below n that pass the test, in rising order
unfoldable pub passing : (ℕ → Bool) → ℕ → List ℕ
passing ok zero = []
passing ok (suc n) = cond (ok n) (passing ok n ++ n ∷ []) (passing ok n)

-- the rows of a list are below n: what is asked of rows that a loop looks up
pub record RowsBelow (n : ℕ) (rows : List ℕ) : Type 0 where
  pub at : (i : ℕ) → i < length rows → get_or rows i 0 < n
