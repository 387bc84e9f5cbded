use mathlib.Core.Path.{ap, ◌∙◌}
use Rattle.std.specs.Prelude.{Err}
use Rattle.std.proofs.lemmas.Result.{err_from_is_err_and}
use Rattle.search_spec.specs.Outcome.{agreed, count_outcome}
use Rattle.search.proofs.Returned.{agreed_of}
use Rattle.search.proofs.agreement.Goals as goal

pub returns-in_err-answered-clause-fact : goal.returns-in_err-answered-clause-fact
unfolding agreed
returns-in_err-answered-clause-fact g c =
    let p = err_from_is_err_and c.from_residual.result c.from_residual.ensures.1 in
    let o = c.in_err-answered.ensures.fact in
    (ap count_outcome (p.1 ∙ ap (λ x. Err x) p.2) ∙ ap agreed_of o.0, o.1, o.2)

pub returns-clause-fact : goal.returns-clause-fact
unfolding agreed
returns-clause-fact g c = let o = c.in_ok-answered.ensures.fact in (ap agreed_of o.0, o.1, o.2)
