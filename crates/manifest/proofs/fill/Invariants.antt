use mathlib.Core.Path.{◌≡◌}
use mathlib.Core.Bool.{true}
use mathlib.Core.List.{◌++◌, map}
use lib.ListN.{drop}
use Rattle.rank.specs.Rows.{passing}
use Rattle.manifest.specs.Scratch.{key}
use Rattle.manifest.proofs.fill.Given as goal

abbrev pub invariant-loop-row : goal.invariant-loop-row
invariant-loop-row l = l.scratch ≡ map (key l.m.bytes.now) (passing (λ r. true) l.row) ++ drop l.row l.initial.scratch
