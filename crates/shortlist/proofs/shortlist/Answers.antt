use mathlib.Core.Path.{refl, sym, ◌∙◌}
use borrow.Author.Rules.{rules}
use Rattle.shortlist.proofs.Joined.{cut, kept, joined}
use Rattle.shortlist.proofs.shortlist.Goals as goal

pub behind-requires-clause-kept : goal.behind-requires-clause-kept
behind-requires-clause-kept g c =
    let S = rw c.table.ensures.0 at c.in_ok-scanned.ensures in
    let l = c.scan.auto.ks in
    let h = c.scan.auto.rs ∙ sym c.requires.slices in
    (cut S _ l ∙ sym (cut S _ h), kept S c.args.original.now.library.manifest.laid_out.most l h (λ i. search rules) refl)

pub returns : goal.returns
returns g c =
    let S = rw c.table.ensures.0 at c.in_ok-scanned.ensures in
    let l = c.scan.auto.ks in
    let h = c.scan.auto.rs ∙ sym c.requires.slices in
    let r = c.behind in
    joined S c.args.original.now.library.manifest.laid_out.most l h (λ i. search rules) refl r.auto.ks r.auto.rs r.ensures _ _
