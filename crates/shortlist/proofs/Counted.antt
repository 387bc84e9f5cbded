-- Kept rows by original order, and their agreement with all eligible rows.
use mathlib.Core.Path.{◌≡◌, refl, sym, ap, ◌∙◌}
use mathlib.Core.Bool.{Bool, true}
use mathlib.Core.Logic.{⊎_elim}
use mathlib.Core.List.{List, map}
use Prim.Native.Nat.{ℕ, ◌≤◌, ◌<◌, min}
use native.Mathlib.Omega.{arith}
use lib.Dec.{leb, eqb}
use lib.Ieee.{Float}
use lib.ListN.{length, take, length-map}
use lib.Seq.{take_all}
use borrow.Author.Tests.{eqb-true, eqb-false}
use Rattle.le.proofs.Chain.{by, lt_or_le}
use Rattle.std.specs.Prelude.{Result}
use Rattle.std.specs.Result.{result_unwrap_or}
use Rattle.rank.specs.Sort.{◌∈◌, sort}
use Rattle.rank.specs.Limit.{by_key}
use Rattle.rank.specs.Rows.{passing, RowsBelow}
use Rattle.rank.proofs.Members.{mem_take, pairwise_take, take_map}
use Rattle.rank.proofs.Sort.{length_sort, from-sort, to_sort, distinct-sort, ascending-sort, sort-sort}
use Rattle.rank.proofs.ByKey.{order}
use Rattle.rank.proofs.Rows.{passing_pass, rows-below}
use Rattle.config.specs.Refusal.{Refusal, none}
use Rattle.config.specs.declared.Refused.{Refused}
use Rattle.config.proofs.Granted.{granted-is}
use Rattle.config.proofs.Refusals.{is_done, is-other}
use Rattle.format.specs.Fields.{rows_of}
use Rattle.entries.specs.Plan.{rows_ok}
use Rattle.search_spec.specs.Lists.{by_original}
use Rattle.search_spec.specs.Scan.{records_refusal}
use Rattle.search_spec.proofs.Agreement.{records-fewer}
use Rattle.rerank.specs.Rerank.{key_at, RerankIs, RerankOutcome, reranked}
use Rattle.rerank.proofs.Ranked.{by_key_lem}
use Rattle.agreement.specs.Count.{Listed, CountIs, Counted}
use Rattle.shortlist.specs.Shortlist.{KeptRows, RankedIs}

-- the rows `given` are kept, and the rerank returned `answer` and left e and f
module _ {m : List ℕ} {eligible : ℕ → Bool} {total : ℕ} {given : List ℕ} (K : KeptRows m eligible total given) where
  abbrev P : List ℕ
  P = passing eligible (rows_of m)

  low : (n : ℕ) → n ∈ given → n < rows_of m
  low n i = (passing_pass eligible (rows_of m) n (K.within n i)).0

  pub rows_in : {n : ℕ} → n ≡ rows_of m → RowsBelow n given
  rows_in e = rw e (rows-below (rows_of m) given low)

  module _ {s : List ℕ} {q : List Float} (answer : Result ℕ Refused) {e f : List ℕ}
      (R : (C : List ℕ) → sort leb given ≡ sort leb C → RerankIs m s q C (reranked answer) e f) where
    abbrev r : RerankOutcome
    r = reranked answer

    -- the first n are a list in order
    pub listed : rows_ok m ≡ true → {w n : ℕ} (k : ℕ) → w ≡ result_unwrap_or answer 0 → n ≡ min w k → Listed m s q eligible (take n e) (take n f)
    listed ok {w} {n} k h i =
        let G = R given refl in
        let le = by_key (key_at m s q) in
        by (eqb r.refusal.number 0)
        (λ t. let z = eqb-true r.refusal.number 0 t in
        let is : f ≡ sort le given = G.rows z ∙ sym (by_key_lem m s q ok given low (rw G.refusal at z)) in
        record {
          keys = ap (take n) (G.keys z ∙ ap (map (key_at m s q)) (sym (G.rows z))) ∙ take_map (key_at m s q) n f;
          up = pairwise_take _ n f (rw is (ascending-sort le (order (key_at m s q)) given));
          once = pairwise_take _ n f (rw (is, ← sort-sort le (order (key_at m s q)) leb given) (distinct-sort le (sort leb given) K.once));
          within = λ x i. K.within x (from-sort le x given (rw is at (mem_take x n f i)));
        })
        (λ t. let some = eqb-false r.refusal.number 0 t in
        let c : r.measured ≡ 0 = G.measured ∙ is-other (records_refusal m s q given) (length given) 0 (λ y. some (rw G.refusal y)) in
        let d = granted-is answer 0 in
        let n0 : n ≡ 0 = omega arith in
        rw n0 (record { keys = refl; up = tt; once = tt; within = λ x i. absurd i }))

    module _ (C : List ℕ) (alike : sort leb given ≡ sort leb C) where
      within-C : (n : ℕ) → n ∈ C → n ∈ P
      within-C n i = K.within n (from-sort leb n given (rw alike (to_sort leb n C i)))

      module _ (z : r.refusal.number ≡ 0) where
        all-C : r.measured ≡ length C
        all-C = (R C alike).measured ∙ is_done (records_refusal m s q C) (length C) 0 (rw (R C alike).refusal at z)

        rows-C : take r.measured f ≡ sort (by_original m s q) C
        rows-C = ap (take r.measured) ((R C alike).rows z) ∙ take_all r.measured (sort (by_original m s q) C) (omega (arith, all-C, length_sort (by_original m s q) C))

        keys-C : take r.measured e ≡ map (key_at m s q) (sort (by_original m s q) C)
        keys-C =
            ap (take r.measured) ((R C alike).keys z)
            ∙ take_all r.measured (map (key_at m s q) (sort (by_original m s q) C)) (omega (arith, all-C, length-map (sort (by_original m s q) C) (key_at m s q), length_sort (by_original m s q) C))

      -- an agreement call: the count was of the first n
      module _ {agree : Bool} {k : ℕ} (on : agree ≡ true) {c : Counted} where
        pub counted : {w n : ℕ} → w ≡ result_unwrap_or answer 0 → n ≡ min w k → CountIs m s q eligible (take n f) c → c.refusal.number ≡ 0
            → RankedIs none agree k m s q eligible C (record { refusal = c.refusal; measured = w; eligible = total; agreement = c.agreement }) e f
        counted {w} {n} h i N y =
            let d : w ≡ r.measured = h ∙ granted-is answer 0 in
            let z : r.refusal.number ≡ 0 =
            ap (λ (x : Refusal). x.number) ((R C alike).refusal ∙ records-fewer m s q C P within-C (rw N.refusal at y)) in
            let t : take n f ≡ take k (sort (by_original m s q) C) =
            ap (take n) ((R C alike).rows z) ∙ first_ones n (rw (d, all-C z) at i) in
            rw (on, d)
            (record {
              refusal = N.refusal;
              measured = all-C z ∙ sym (is_done c.refusal (length C) 0 y);
              total = K.total ∙ sym (is_done c.refusal (length P) 0 y);
              rows = λ x. rows-C z;
              keys = λ x. keys-C z;
              agreement = rw t at N.agreement;
            })
          where
            first_ones : (n : ℕ) → n ≡ min (length C) k → take n (sort (by_original m s q) C) ≡ take k (sort (by_original m s q) C)
            first_ones n e =
                let l = length_sort (by_original m s q) C in
                ⊎_elim
                (λ (h : k < length C). let d : n ≡ k = omega arith in rw d)
                (λ (h : length C ≤ k). take_all n (sort (by_original m s q) C) (omega arith) ∙ sym (take_all k (sort (by_original m s q) C) (omega arith)))
                (lt_or_le k (length C))
