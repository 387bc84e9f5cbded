use mathlib.Core.Path.{refl}
use Rattle.shortlist.proofs.Counted.{rows_in, listed, counted}
use Rattle.shortlist.proofs.behind.Goals as goal

pub rerank-reranked-requires : goal.rerank-reranked-requires
rerank-reranked-requires c = (rows_in c.requires.kept.1 c.args.original.now.library.manifest.laid_out.rows, c.requires.kept.0)

pub count-requires-clause-listed : goal.count-requires-clause-listed
count-requires-clause-listed c =
    let r = c.rerank-reranked in listed c.requires.kept.1 r.result r.ensures c.args.original.now.library.rows c.args.k c.unwrap_or-measured.ensures c.min-n.ensures

pub returns : goal.returns
returns c =
    let r = c.rerank-reranked in
    λ C alike. counted c.requires.kept.1 r.result r.ensures C alike c.if-not-agree.false c.unwrap_or-measured.ensures c.min-n.ensures c.in_ok-agreement.ensures refl
