use mathlib.Core.Path.{◌≡◌, sym, ◌∙◌}
use Prim.Native.Nat.{◌<◌}
use lib.ListN.{length}
use borrow.Author.Rules.{rules}
use Rattle.utf8.proofs.Chars.{passed, stopped, ended}
use Rattle.utf8.proofs.valid.Goals as goal

pub returns-in_default : goal.returns-in_default
returns-in_default c =
    let l = c.loop-rest in
    let h : 0 < length l.rest.now = search rules in
    sym (stopped l.rest.now h c.in_default.ensures.value) ∙ l.invariant

pub loop-rest-preserved : goal.loop-rest-preserved
loop-rest-preserved c =
    let l = c.loop-rest in
    let h : 0 < length l.rest.now = search rules in
    passed l.rest.now h c.in-Some.ensures.value ∙ l.invariant

pub returns : goal.returns
returns c =
    let l = c.loop-rest in
    let h : length l.rest.now ≡ 0 = search rules in
    sym (ended l.rest.now h) ∙ l.invariant
