-- Between functions: what they promise one another. No contract of an entry and no theorem rests on this file.
-- The numbers that a program can hold, of which what is written reads back.
use Rattle.std.specs.Prelude.{◌≡◌, List, [], ◌∷◌, ◌++◌, ℕ, ◌<◌, ◌^◌, length}
use Rattle.format.specs.declared.Head.{Head}
use Rattle.api_state.specs.Bytes.{head_numbers}

-- each number is one of 64 bits
abbrev pub Fit : List ℕ → Type 0
Fit [] = Unit
Fit (v ∷ vs) = (v < 2 ^ 64) × Fit vs

-- of a head and the state's own numbers
abbrev pub StateFits : Head → List ℕ → Type 0
StateFits h own = Fit (head_numbers h ++ own) × (length h.model ≡ 512)
