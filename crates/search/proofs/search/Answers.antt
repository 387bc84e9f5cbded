use mathlib.Core.Path.{ap, ◌∙◌}
use Rattle.std.specs.Prelude.{Err}
use Rattle.std.proofs.lemmas.Result.{err_from_is_err_and}
use Rattle.search_spec.specs.Outcome.{searched, search_outcome}
use Rattle.search.proofs.Returned.{searched_of}
use Rattle.search.proofs.search.Goals as goal

pub returns-in_err-answered-clause-fact : goal.returns-in_err-answered-clause-fact
unfolding searched
returns-in_err-answered-clause-fact g c =
    let p = err_from_is_err_and c.from_residual.result c.from_residual.ensures.1 in
    let o = c.in_err-answered.ensures.fact in
    (ap search_outcome (p.1 ∙ ap (λ x. Err x) p.2) ∙ ap searched_of o.0, o.1, o.2)

pub returns-clause-fact : goal.returns-clause-fact
unfolding searched
returns-clause-fact g c = let o = c.in_ok-answered.ensures.fact in (ap searched_of o.0, o.1, o.2)
