use native.Mathlib.Omega.{arith}
use mathlib.Core.Path.{◌≡◌, sym, ap, ◌∙◌}
use mathlib.Core.Bool.{true}
use mathlib.Core.List.{◌++◌, map}
use Prim.Native.Nat.{◌+◌, ◌<◌}
use lib.ListN.{length, drop, set}
use Rattle.le.proofs.Pastes.{set_next}
use Rattle.rank.specs.Rows.{passing}
use Rattle.rank.proofs.Rows.{passing-none}
use Rattle.manifest.specs.Scratch.{key}
use Rattle.manifest.proofs.Keys.{count-keys, keys-more}
use Rattle.manifest.proofs.fill.Goals as goal

pub loop-row-init : goal.loop-row-init
loop-row-init c = rw passing-none

pub loop-row-preserved : goal.loop-row-preserved
loop-row-preserved c =
    let L = c.loop-row in
    let m = c.args.m.bytes.now in
    let t = c.args.scratch.now in
    let i : L.row < length t = omega (arith, c.loop-row-test.true, c.requires.0) in
    ap (λ l. set l L.row c.key_of.result) L.invariant ∙ rw c.key_of.ensures (set_next (map (key m) (passing (λ r. true) L.row)) t L.row (key m L.row) 0 (count-keys m L.row) i ∙ ap (λ k. k ++ drop (L.row + 1) t) (sym (keys-more m L.row)))

pub returns : goal.returns
returns c =
    let L = c.loop-row in
    let e : L.row ≡ c.args.m.layout.rows = omega arith in
    L.invariant ∙ rw (e, c.args.m.laid_out.rows)
