use native.Mathlib.Omega.{arith}
use mathlib.Core.Path.{refl, sym, ap, ◌∙◌}
use mathlib.Core.List.{[]}
use Prim.Native.Nat.{◌≤◌}
use lib.ListN.{length}
use lib.Seq.{length-take-le}
use Rattle.std.specs.Prelude.{Err}
use Rattle.std.proofs.lemmas.Result.{err_from_is_err_and}
use Rattle.config.specs.declared.Number.TheVariants.{Changed}
use Rattle.search_spec.specs.Lent.{work_of}
use Rattle.search_spec.specs.Lists.{eligible_rows}
use Rattle.search_spec.proofs.Passed.{front, low-limit}
use Rattle.ranked.specs.Ends.{looked_at}
use Rattle.ranked.proofs.Ended.{turned, done, ends_as, report-none}
use Rattle.call.specs.Whole.{worked_call}
use Rattle.call.proofs.Wanted.{ordered}
use Rattle.call.proofs.Passed.{lengths-hold, ids-fit, rest-fits, long_enough}
use Rattle.call.proofs.Ended.{late-entries, late-none, late-short, late-rest, none_filled, none_agree, same-eligible}
use Rattle.call.proofs.past.Goals as goal

pub check_entries-requires : goal.check_entries-requires
check_entries-requires g c =
    let a = c.args in
    rw c.requires.0 (lengths-hold (g.K.Kept.head_of a.kept) (worked_call a.call.now a.answers.now a.keys.now a.candidates.now a.ids.now) c.requires.1)

pub returns-in_err-table-clause-fact : goal.returns-in_err-table-clause-fact
returns-in_err-table-clause-fact g c =
    let a = c.args in
    let k = worked_call a.call.now a.answers.now a.keys.now a.candidates.now a.ids.now in
    let v = g.K.Kept.seen a.kept k.manifest in
    let p = err_from_is_err_and c.from_residual.result c.from_residual.ensures.1 in
    ends_as (late-entries v k (looked_at a.agree v k) c.in_err-table.field-0.0 (rw c.requires.0 at c.in_err-table.ensures.told)) (turned (p.1 ∙ ap (λ x. Err x) p.2))

pub select-n-requires : goal.select-n-requires
select-n-requires g c =
    let a = c.args in
    ids-fit (g.K.Kept.head_of a.kept) (worked_call a.call.now a.answers.now a.keys.now a.candidates.now a.ids.now) c.requires.1

-- the front of the id slice
long : (g : _) (c : goal.After-and-arg-1 g) → c.select-n.result ≤ length c.select-n.new.work
long g c =
    let a = c.args in
    let f = ids-fit (g.K.Kept.head_of a.kept) (worked_call a.call.now a.answers.now a.keys.now a.candidates.now a.ids.now) c.requires.1 in
    let e = c.select-n.ensures.value in
    let k = c.select-n.auto.work in
    omega (arith, e, f, k)

pub slice_bounds-and-end : goal.slice_bounds-and-end
slice_bounds-and-end g c = long g c

pub slice_bounds-and-end-2 : goal.slice_bounds-and-end-2
slice_bounds-and-end-2 g c = sym (length-take-le c.select-n.result c.select-n.new.work (long g c))

pub count-total-requires : goal.count-total-requires
count-total-requires g c = (ordered c.args.call.now.wanted _ _ c.select-n.ensures.value c.select-n.ensures.work_after refl c.and-wanted.ensures).rises

pub returns-then-call-eq0-clause-fact : goal.returns-then-call-eq0-clause-fact
unfolding eligible_rows
returns-then-call-eq0-clause-fact g c =
    let a = c.args in
    let k = worked_call a.call.now a.answers.now a.keys.now a.candidates.now a.ids.now in
    let v = g.K.Kept.seen a.kept k.manifest in
    let o = ordered a.call.now.wanted _ _ c.select-n.ensures.value c.select-n.ensures.work_after refl c.and-wanted.ensures in
    let z = c.if-call-eq0.true in
    let t = c.in_ok-table.ensures in
    let m = c.requires.0 in
    ends_as (late-none v k (looked_at a.agree v k) (rw m at t.told) z)
    (done
    (c.report_of.ensures ∙ rw m (report-none v k (c.count-total.ensures ∙ rw (t.same.0, m) (ap length (o.rows k.manifest))) z))
    (none_agree a.agree v k z) (none_filled v k z))

pub ranked-requires-clause-call : goal.ranked-requires-clause-call
ranked-requires-clause-call g c =
    let a = c.args in
    let n = c.if-call-eq0.false in
    let f = front (g.K.Kept.head_of a.kept) (worked_call a.call.now a.answers.now a.keys.now a.candidates.now a.ids.now) c.requires.1 in (
      c.in_ok-table.ensures.same.0 ∙ c.requires.0,
      omega (arith, n),
      low-limit f,
      f.query,
      (ordered a.call.now.wanted _ _ c.select-n.ensures.value c.select-n.ensures.work_after refl c.and-wanted.ensures).rises,
    )

pub ranked-requires-clause-fits : goal.ranked-requires-clause-fits
ranked-requires-clause-fits g c =
    let a = c.args in
    rest-fits (g.K.Kept.head_of a.kept) (worked_call a.call.now a.answers.now a.keys.now a.candidates.now a.ids.now) c.requires.1 (c.in_ok-table.ensures.same.0 ∙ c.requires.0) c.in_ok-table.table.manifest.laid_out.rows

pub returns-in-Some-clause-fact : goal.returns-in-Some-clause-fact
returns-in-Some-clause-fact g c =
    let a = c.args in
    let k = worked_call a.call.now a.answers.now a.keys.now a.candidates.now a.ids.now in
    let v = g.K.Kept.seen a.kept k.manifest in
    let o = ordered a.call.now.wanted _ _ c.select-n.ensures.value c.select-n.ensures.work_after refl c.and-wanted.ensures in
    let r = c.in-Some.ensures in
    ends_as (late-rest v k (looked_at a.agree v k) (rw c.requires.0 at c.in_ok-table.ensures.told) c.if-call-eq0.false)
    (same-eligible a.agree v a.call.now a.answers.now c.and-wanted.result a.call.now.wanted (work_of a.keys.now a.candidates.now []) k.work (o.same k.manifest)
    (c.ranked.ensures.fact v (g.met.K.Kept.of_base a.kept k.manifest) (long_enough (rw c.requires.0 at r.none.1)) (rw c.requires.0 at (sym r.some.0))))

pub returns-in-None-clause-fact : goal.returns-in-None-clause-fact
returns-in-None-clause-fact g c =
    let a = c.args in
    let k = worked_call a.call.now a.answers.now a.keys.now a.candidates.now a.ids.now in
    let v = g.K.Kept.seen a.kept k.manifest in
    ends_as
    (late-short v k (looked_at a.agree v k) (rw c.requires.0 at c.in_ok-table.ensures.told) c.if-call-eq0.false (rw c.requires.0 at (c.in-None.ensures.none.0 refl)))
    (turned {r = Err (record { number = Changed; place = 0 })} refl)
