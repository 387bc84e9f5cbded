use native.Mathlib.Omega.{arith}
use mathlib.Core.Path.{◌≡◌, sym, ap, ◌∙◌}
use Prim.Native.Nat.{ℕ, ◌+◌, ◌*◌, ◌<◌}
use native.Mathlib.Numerals.{add-one}
use mathlib.Core.List.{List}
use lib.ListN.{length, get_or}
use lib.Seq.{take-length}
use Rattle.le.specs.Le.{paste, bytes}
use Rattle.le.proofs.Pastes.{paste-nil}
use Rattle.api_state.specs.Bytes.{words}
use Rattle.api_state.proofs.Words.{words_turn, all_fit}
use Rattle.api_state.proofs.put_words.Goals as goal

pub loop-i-init : goal.loop-i-init
unfolding words
loop-i-init c = sym (paste-nil c.args.out.now c.args.at)

pub loop-i-preserved : goal.loop-i-preserved
loop-i-preserved c =
    let L = c.loop-i in
    let d = c.args.out.now in
    let at = c.args.at in
    let v = c.args.v.now in
    let h : L.i < length v = omega arith in
    c.put_u64.ensures ∙ ap (λ (l : List ℕ). paste l (at + 8 * L.i) (bytes 8 (get_or v L.i 0))) L.invariant ∙ rw (add-one L.i) (words_turn d v at L.i h c.requires)

pub returns : goal.returns
returns c =
    let L = c.loop-i in
    let v = c.args.v.now in
    let e : L.i ≡ length v = omega arith in
    (L.invariant ∙ rw (e, take-length v), all_fit v (λ k. (c.type_inv.v k).fits))
