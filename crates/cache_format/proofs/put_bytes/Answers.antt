use borrow.Author.Rules.{rules}
use native.Mathlib.Omega.{arith}
use mathlib.Core.Path.{◌≡◌, ap, ◌∙◌}
use Prim.Native.Nat.{◌+◌, ◌<◌}
use native.Mathlib.Numerals.{add-one}
use lib.ListN.{length, set, get_or, length-set}
use lib.Seq.{paste-zero, paste-suc, take-length}
use Rattle.le.specs.Le.{paste}
use Rattle.cache_format.proofs.put_bytes.Goals as goal

pub loop-i-preserved : goal.loop-i-preserved
loop-i-preserved c =
    let L = c.loop-i in
    let d = c.args.cache.now in
    let s = c.args.s.now in
    let at = c.args.at in
    let i = L.i in
    let h : at + i < length d = omega (arith, c.requires, c.loop-i-test.true) in
    (length-set L.cache (at + i) (get_or s i 0) ∙ L.invariant.0, ap (λ l. set l (at + i) (get_or s i 0)) L.invariant.1 ∙ rw (add-one i) (paste-suc d at s i 0 h c.loop-i-test.true))

pub returns : goal.returns
unfolding paste
returns c =
    let L = c.loop-i in
    let s = c.args.s.now in
    let e : L.i ≡ length s = omega arith in
    L.invariant.1 ∙ rw (e, take-length s)

pub loop-i-init : goal.loop-i-init
loop-i-init c = (search rules, paste-zero c.args.cache.now c.args.at c.args.s.now)
