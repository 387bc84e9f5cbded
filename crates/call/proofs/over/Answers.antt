use mathlib.Core.Path.{sym, ap, ◌∙◌}
use Rattle.std.specs.Prelude.{Err}
use Rattle.std.proofs.lemmas.Result.{err_from_is_err_and}
use Rattle.search_spec.specs.Lent.{call_in}
use Rattle.call.proofs.Ended.{front-refused, front-passed, all-cleared}
use Rattle.call.proofs.over.Goals as goal

pub returns-in_err-m-clause-fact : goal.returns-in_err-m-clause-fact
returns-in_err-m-clause-fact g c =
    let a = c.args in
    let k = call_in a.call.now a.answers.now a.work.now in
    let p = err_from_is_err_and c.from_residual.result c.from_residual.ensures.1 in
    front-refused a.agree (g.K.Kept.head_of a.kept) (g.K.Kept.seen a.kept k.manifest) k (rw (c.head.ensures, c.handed_in-count.ensures) at c.in_err-m.ensures.told) (p.1 ∙ ap (λ x. Err x) p.2)

pub returns-clause-fact : goal.returns-clause-fact
returns-clause-fact g c =
    let a = c.args in
    let k = call_in a.call.now a.answers.now a.work.now in
    let p = c.past-r in
    front-passed a.agree (g.K.Kept.head_of a.kept) (g.K.Kept.seen a.kept k.manifest) k c.singles.ensures (sym (rw (c.head.ensures, c.handed_in-count.ensures) at c.in_ok-m.ensures.told)) p.ensures.fact
    (all-cleared p.new.keys p.new.candidates p.new.ids k.work.keys k.work.rows k.work.ids p.auto.keys p.auto.candidates p.auto.ids c.clear.ensures.fact)
