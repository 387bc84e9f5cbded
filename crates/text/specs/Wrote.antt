-- What a writer writes.
use Rattle.std.specs.Prelude.{◌≡◌, List, ℕ, ◌+◌, ◌≤◌, length}
use Rattle.text.specs.Put.{Put}
use Rattle.text.specs.declared.Writer.{Writer}

-- that there is room for a text
abbrev pub HasRoom : Writer → List ℕ → Type 0
HasRoom w text = w.at + length text ≤ length w.out.now

-- that a text stands behind what was written before, in a slice that keeps its length
pub record Wrote (before after : Writer) (text : List ℕ) : Type 0 where
  pub put : Put before.out.now after.out.now before.at text after.at
  pub size : length after.out.now ≡ length before.out.now
