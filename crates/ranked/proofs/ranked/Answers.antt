use native.Mathlib.Omega.{arith}
use mathlib.Core.Path.{refl, sym, ap, ◌∙◌}
use Rattle.std.specs.Prelude.{[], Err}
use Rattle.std.proofs.lemmas.Result.{err_from_is_err_and}
use Rattle.entries.proofs.Entries.{lengths_of}
use Rattle.search_spec.specs.Lent.{work_of}
use Rattle.search_spec.specs.Outcome.{filled}
use Rattle.ranked.specs.Ends.{lent_call}
use Rattle.ranked.proofs.Found.{Listed, listed, found}
use Rattle.ranked.proofs.Ended.{turned, done, ends_as, ends-seen, report-is}
use Rattle.ranked.proofs.ranked.Goals as goal

here : (g : _) (c : goal.After-library-3-1 g) → let a = c.args in
    Listed a.agree (g.R.Rows.at a.rows) (lent_call a.call.now a.wanted a.answers.now (work_of a.keys.now a.candidates.now [])) a.table.manifest.layout.rows c.min-n.result c.min-count.result c.find.new.ks c.find.new.rs c.in_ok-found.found
here g c =
    let a = c.args in
    let r = c.requires in
    listed _ (lent_call a.call.now a.wanted a.answers.now (work_of a.keys.now a.candidates.now [])) r.call.0 a.table.manifest.laid_out.rows r.call.2 c.min-n.ensures r.fits c.find.auto.ks c.find.auto.rs c.in_ok-found.ensures c.min-count.ensures

here-2 : (g : _) (c : goal.After-write-arg-1 g) → let a = c.args in
    Listed a.agree (g.R.Rows.at a.rows) (lent_call a.call.now a.wanted a.answers.now (work_of a.keys.now a.candidates.now [])) a.table.manifest.layout.rows c.min-n.result c.min-count.result c.find.new.ks c.find.new.rs c.in_ok-found.found
here-2 g c =
    let a = c.args in
    let r = c.requires in
    listed _ (lent_call a.call.now a.wanted a.answers.now (work_of a.keys.now a.candidates.now [])) r.call.0 a.table.manifest.laid_out.rows r.call.2 c.min-n.ensures r.fits c.find.auto.ks c.find.auto.rs c.in_ok-found.ensures c.min-count.ensures

here-3 : (g : _) (c : goal.After-report_of g) → let a = c.args in
    Listed a.agree (g.R.Rows.at a.rows) (lent_call a.call.now a.wanted a.answers.now (work_of a.keys.now a.candidates.now [])) a.table.manifest.layout.rows c.min-n.result c.min-count.result c.find.new.ks c.find.new.rs c.in_ok-found.found
here-3 g c =
    let a = c.args in
    let r = c.requires in
    listed _ (lent_call a.call.now a.wanted a.answers.now (work_of a.keys.now a.candidates.now [])) r.call.0 a.table.manifest.laid_out.rows r.call.2 c.min-n.ensures r.fits c.find.auto.ks c.find.auto.rs c.in_ok-found.ensures c.min-count.ensures

pub starts-starts-requires : goal.starts-starts-requires
starts-starts-requires g c = lengths_of c.args.table.manifest.bytes.now c.args.table.rules

pub returns-in_err-found-clause-fact : goal.returns-in_err-found-clause-fact
returns-in_err-found-clause-fact g c = λ v e w t.
    let a = c.args in
    let r = c.requires in
    let p = err_from_is_err_and c.from_residual.result c.from_residual.ensures.1 in
    let F = found (g.R.Rows.at a.rows) (lent_call a.call.now a.wanted a.answers.now (work_of a.keys.now a.candidates.now [])) r.call.0 a.table.manifest.laid_out.rows c.min-n.ensures r.fits.keys c.in_err-found.ensures in
    ends-seen v e w t (ends_as F.refusal (turned (p.1 ∙ ap (λ x. Err x) p.2)))

pub slice_bounds-write-end : goal.slice_bounds-write-end
slice_bounds-write-end g c = (here g c).keys_cut.inside

pub slice_bounds-write-end-2 : goal.slice_bounds-write-end-2
slice_bounds-write-end-2 g c = (here g c).keys_cut.taken

pub slice_bounds-write-end-3 : goal.slice_bounds-write-end-3
slice_bounds-write-end-3 g c = (here g c).rows_cut.inside

pub slice_bounds-write-end-4 : goal.slice_bounds-write-end-4
slice_bounds-write-end-4 g c = (here g c).rows_cut.taken

pub write-requires-clause-listed : goal.write-requires-clause-listed
write-requires-clause-listed g c = let h = here-2 g c in (sym h.keys_cut.taken ∙ h.rows_cut.taken, h.below)

pub write-requires-clause-room : goal.write-requires-clause-room
write-requires-clause-room g c =
    let h = here-2 g c in
    let r = c.requires.fits in
    let e = h.rows_cut.taken in
    let f = h.few in
    (omega (arith, e, f, r.ids), omega (arith, e, f, r.distances), omega (arith, e, f, r.rows), omega (arith, e, f, r.starts), omega (arith, e, f, r.lengths))

pub returns-clause-fact : goal.returns-clause-fact
returns-clause-fact g c = λ v e w t.
    let a = c.args in
    let k = lent_call a.call.now a.wanted a.answers.now (work_of a.keys.now a.candidates.now []) in
    let h = here-3 g c in
    let F = h.found in
    let m = c.requires.call.0 in
    ends-seen v e w t
    (ends_as F.refusal
    (done
    (c.report_of.ensures ∙ rw m (report-is _ k (F.total refl) (λ z. let p = c.requires.call.1 in omega (arith, p, z)) (F.measured refl) h.count_is))
    (F.agreement refl)
    (c.write.ensures.fact ∙ ap (λ l. filled l k.answers) (rw m h.places))))
