-- The manifest check (document 01, What each place turns away: "Manifest checks run in the order `read_manifest` reads; a short scratch
-- slice gives 11 before the tiling test"; all places are 0).
use Rattle.std.specs.Prelude.{cond, List, ℕ, eqb, length, Result}
use Rattle.le.specs.Le.{zeros}
use Rattle.config.specs.Refusal.{Refusal, refused, unless_refused}
use Rattle.config.specs.Told.{told, granted}
use Rattle.config.specs.declared.Refused.{Refused}
use Rattle.format.specs.Order.{unless, or_else}
use Rattle.format.specs.Head.{head_at, zero_head}
use Rattle.entries.specs.Plan.{plan_number}
use Rattle.manifest.specs.Tiling.{tiled}
use Rattle.manifest.specs.Scratch.{ordered}
use Rattle.format.specs.declared.Head.{Head}

-- the number of the first test that fails, or 0
unfoldable pub manifest_number : List ℕ → ℕ → ℕ → ℕ
manifest_number m expected scratch = or_else (plan_number m expected scratch) (unless (tiled m) 4 0)

-- a refusal, and the head that a search compares
pub record Checked : Type 0 where
  pub refusal : Refusal
  pub head : Head

-- what the code answers
abbrev pub outcome : Result Head Refused → Checked
outcome r = record { refusal = told r; head = granted zero_head r }

-- what is answered: a refusal and zeros, or the head (document 01: "A refusal returns its number and a place"; readings R23)
unfoldable pub checked_by : List ℕ → Refusal → Checked
checked_by m refusal = record { refusal = refusal; head = unless_refused refusal (head_at m) zero_head }

abbrev pub checked : List ℕ → ℕ → ℕ → Checked
checked m expected scratch = checked_by m (refused (manifest_number m expected scratch) 0)

-- the scratch t once the tiling is tested (document 01, The report: "tiling scratch: its 11"; readings R13: it stays on 1, 2, 3 and its own
-- 11, else the whole slice ends zero); until it is cleared it holds the rows of an accepted manifest in order
unfoldable pub scratch_left : List ℕ → ℕ → List ℕ → List ℕ
scratch_left m expected t = cond (eqb (plan_number m expected (length t)) 0) (zeros t) t

unfoldable pub scratch_held : List ℕ → ℕ → List ℕ → List ℕ
scratch_held m expected t = cond (eqb (plan_number m expected (length t)) 0) (cond (tiled m) (ordered m t) (zeros t)) t
