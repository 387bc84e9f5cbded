-- Document 01, The arithmetic: "Order: IEEE 754 totalOrder on distance, then id."
use Rattle.std.specs.Prelude.{Bool, true, false, cond, ℕ, leb, Float}
use Rattle.float.specs.Order.{total_below}

-- row r is row s or comes before it, where each row has a distance and an id
unfoldable pub by_distance : (ℕ → Float) → (ℕ → ℕ) → ℕ → ℕ → Bool
by_distance distance id r s =
    cond (total_below (distance r) (distance s)) true (cond (total_below (distance s) (distance r)) false (leb (id r) (id s)))
