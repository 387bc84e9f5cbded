-- The candidates by original order: by key and row that is document 01's own order.
use mathlib.Core.Path.{◌≡◌, sym, ap, ◌∙◌}
use mathlib.Core.Bool.{true}
use mathlib.Core.List.{List, map}
use Prim.Native.Nat.{ℕ, ◌^◌, ◌<◌}
use native.Mathlib.Omega.{arith}
use lib.Dec.{leb}
use lib.Ieee.{Float}
use lib.ListN.{length}
use lib.Seq.{take_all}
use Rattle.rank.specs.Sort.{◌∈◌, sort, least}
use Rattle.rank.specs.Limit.{by_key}
use Rattle.rank.specs.Pairs.{pairs}
use Rattle.rank.specs.Rows.{RowsBelow}
use Rattle.rank.proofs.Sort.{length_sort, from-sort, to_sort}
use Rattle.rank.proofs.Rows.{each_below}
use Rattle.rank.proofs.Order.{Measured, least-order}
use Rattle.rank.proofs.Rekeyed.{resorted}
use Rattle.config.specs.Refusal.{unless_refused}
use Rattle.format.specs.Fields.{rows_of, metric_at, id_at}
use Rattle.entries.specs.Plan.{rows_ok}
use Rattle.entries.proofs.Entries.{ids_rise}
use Rattle.segment.specs.Record.{vector_of}
use Rattle.search_spec.specs.Lists.{original_at, by_original}
use Rattle.search_spec.specs.Scan.{records_refusal}
use Rattle.search_spec.proofs.Keys.{records_each}
use Rattle.rerank.specs.Rerank.{RerankOutcome, key_at, MeasureIs, RerankIs}
use Rattle.rerank.specs.declared.Original.{Original}
use Rattle.rerank.proofs.Fits.{original-fits}
use Rattle.rerank.proofs.Records.{number, record_fine}

-- rows whose records are not refused: by key and row they stand as by distance and id
module _ (m s : List ℕ) (q : List Float) (ok : rows_ok m ≡ true) (rows : List ℕ) (below : (n : ℕ) → n ∈ rows → n < rows_of m) (z : (records_refusal m s q rows).number ≡ 0) where
  measured : (n : ℕ) → n ∈ rows → Measured (original_at m s q) (id_at m) n
  unfolding original_at
  measured n i =
      record {
        fit = original-fits (metric_at m) q (vector_of m s n);
        number = number (original_at m s q n) (record_fine m s q n (records_each m s q rows z n i));
      }

  pub by_key_lem : sort (by_key (key_at m s q)) rows ≡ sort (by_original m s q) rows
  unfolding least key_at
  by_key_lem =
      sym (take_all (length rows) (sort (by_key (key_at m s q)) rows) (omega (arith, length_sort (by_key (key_at m s q)) rows)))
      ∙ least-order (original_at m s q) (id_at m) rows measured (λ a b i j l. ids_rise m a b ok l (below b j)) (length rows)
      ∙ take_all (length rows) (sort (by_original m s q) rows) (omega (arith, length_sort (by_original m s q) rows))

-- the rows `given` are the candidates C in any order, R are they by rising row, and r and ks what measuring them left
module _ (o : Original) {given R ks : List ℕ} {r : RerankOutcome} (B : RowsBelow o.library.manifest.layout.rows given) (is : R ≡ sort leb given)
    (M : MeasureIs o.library.manifest.bytes.now o.library.segments.now o.query.coordinates.now R r ks) (C : List ℕ) (alike : sort leb given ≡ sort leb C) where
  abbrev m : List ℕ
  m = o.library.manifest.bytes.now

  abbrev s : List ℕ
  s = o.library.segments.now

  abbrev q : List Float
  q = o.query.coordinates.now

  by_row : R ≡ sort leb C
  by_row = is ∙ alike

  below : (n : ℕ) → n ∈ C → n < rows_of m
  below n i = each_below (rows_of m) given (rw o.library.manifest.laid_out.rows at B) n (from-sort leb n given (rw (← alike) at (to_sort leb n C i)))

  refusal_is : r.refusal ≡ records_refusal m s q C
  unfolding records_refusal
  refusal_is = rw by_row at M.refusal

  measured-is : r.measured ≡ unless_refused (records_refusal m s q C) (length C) 0
  measured-is = let l = ap length by_row ∙ length_sort leb C in rw (refusal_is, l) at M.measured

  -- and e and f are what the sort of ks and R has left
  pub ranked : (e f : List ℕ) → length e ≡ length f → ((n : ℕ) → n ∈ f → n < 2 ^ 64) → pairs e f ≡ sort leb (pairs ks R) → r.refusal.number ≡ 0
      → RerankIs m s q C r e f
  ranked e f h i p z =
      let few = o.library.manifest.laid_out.most in
      let k = by_key_lem m s q o.library.rows C below (rw refusal_is at z) in
      let t = resorted (key_at m s q) C (λ n j. let b = below n j in omega (arith, b, few)) ks e f (M.keys z ∙ ap (map (key_at m s q)) by_row) h i (p ∙ ap (λ l. sort leb (pairs ks l)) by_row) in
      record { refusal = refusal_is; measured = measured-is; rows = λ y. t.1 ∙ k; keys = λ y. t.0 ∙ ap (map (key_at m s q)) k }

  pub not_ranked : (r.refusal.number ≡ 0 → ⊥) → (e f : List ℕ) → RerankIs m s q C r e f
  not_ranked some e f = record { refusal = refusal_is; measured = measured-is; rows = λ y. absurd (some y); keys = λ y. absurd (some y) }
