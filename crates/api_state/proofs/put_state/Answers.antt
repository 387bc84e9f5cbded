use native.Mathlib.Omega.{arith}
use mathlib.Core.Path.{refl, ap, ◌∙◌}
use mathlib.Core.List.{List}
use Prim.Native.Nat.{ℕ, ◌+◌, ◌*◌}
use lib.ListN.{length}
use Rattle.le.specs.Le.{paste}
use Rattle.api_state.specs.Bytes.{words, head_numbers}
use Rattle.api_state.proofs.Words.{fit_append}
use Rattle.api_state.proofs.Laws.{filled}
use Rattle.api_state.proofs.put_state.Goals as goal

pub returns : goal.returns
returns c =
    let d = c.args.out.now in
    let h = c.args.h in
    let o = c.args.own.now in
    let n = c.head_numbers-numbers.ensures in
    let m = c.put_model.ensures in
    let w = c.put_words-2.ensures in
    let v = c.put_words.ensures in
    let at = 88 + 8 * length o in
    let first = v.0 ∙ ap (λ (l : List ℕ). paste d 0 (words l)) n in
    let second = w.0 ∙ ap (λ (l : List ℕ). paste l 88 (words o)) first in
    (m.0 ∙ ap (λ (l : List ℕ). paste l at h.model) second ∙ filled d h o at refl (omega (arith, m.1, c.requires)), (fit_append (head_numbers h) o (rw n at v.1) w.1, m.1))
