-- The agreement of a call, which is counted in rows, is that of ids.
use mathlib.Core.Path.{◌≡◌, sym, ap, ◌∙◌}
use mathlib.Core.Bool.{Bool, true, cond}
use lib.Dec.{eqb}
use borrow.Author.Tests.{eqb-true}
use Rattle.le.proofs.Chain.{by}
use Rattle.config.specs.Refusal.{unless_refused}
use Rattle.config.proofs.Refusals.{goes_on}
use Rattle.format.specs.declared.Head.{Head}
use Rattle.search_spec.specs.Lent.{Rows, Call, Singles}
use Rattle.search_spec.specs.Tests.{front_number}
use Rattle.search_spec.specs.Lists.{eligible, eligible_rows}
use Rattle.search_spec.specs.Outcome.{agreement_of, late_refusal, outcome_by, agreed, Succeeds}
use Rattle.search_spec.proofs.Agreement.{count-rows}
use Rattle.rerank.specs.Rerank.{key_at}
use Rattle.ranked.specs.Ends.{looked_at, count_of}

module _ (agree : Bool) (head : Head) (rows : Rows) (c : Call) (f : Singles c.query) (z : front_number head c ≡ 0) where
  succeeds : agree ≡ true → (late_refusal rows c (looked_at agree rows c)).number ≡ 0 → Succeeds (agreed head rows c)
  unfolding agreed outcome_by
  succeeds a h = ap (λ r. r.number) (goes_on (front_number head c) (late_refusal rows c (eligible_rows c)) z) ∙ (rw a at h)

  pub counted : let r = late_refusal rows c (looked_at agree rows c) in unless_refused r (count_of agree rows c) 0 ≡ cond agree (unless_refused r (agreement_of rows c) 0) 0
  unfolding key_at eligible_rows eligible
  counted =
      let r = late_refusal rows c (looked_at agree rows c) in
      by agree
      (λ a. by (eqb r.number 0)
      (λ e. rw (e, a) (sym (count-rows head rows c (succeeds a (eqb-true r.number 0 e)) f)))
      (λ e. rw (e, a)))
      (λ a. by (eqb r.number 0) (λ e. rw (e, a)) (λ e. rw (e, a)))
