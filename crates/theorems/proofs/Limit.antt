-- The limit theorem, from rank's.
use Rattle.rank.proofs.Limit.{limit_theorem}
use Rattle.rank.proofs.Order.{by_distances}
use Rattle.theorems.specs.Limit.{Limit}

pub limit : Limit
limit = record {
  by_distances = λ distance id near eligible rising up.
      let T = by_distances distance id near eligible rising up in
      record {
        better = T.better;
        keeps = λ k small large l h L r i. T.keeps k small large r h (rw (T.exact-only k l L) at i);
        whole = λ k limit h. rw (T.whole k limit h) (T.exact_are k);
        all = T;
      };
  by_order = limit_theorem;
}
