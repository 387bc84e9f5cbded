-- The agreement count row by row.
use mathlib.Core.Path.{◌≡◌, sym, ap, ◌∙◌}
use mathlib.Core.Bool.{Bool, true, false}
use mathlib.Core.List.{List}
use Prim.Native.Nat.{ℕ, ◌+◌, ◌<◌}
use lib.Ieee.{Float}
use lib.ListN.{length}
use Rattle.rank.specs.Limit.{by_key}
use Rattle.rank.specs.Rows.{passing}
use Rattle.rank.proofs.ByKey.{order}
use Rattle.rank.proofs.Limit.{rising_once}
use Rattle.rank.proofs.Rows.{passing-none, passing-more, passing_skip, passing_rising}
use Rattle.rank.proofs.Sort.{to_sort, distinct-sort, ascending-sort}
use Rattle.config.specs.Refusal.{Refusal, none}
use Rattle.config.proofs.Refusals.{is-other}
use Rattle.format.specs.Fields.{rows_of}
use Rattle.search_spec.specs.Outcome.{same_places}
use Rattle.search_spec.specs.Scan.{record_refusal}
use Rattle.search_spec.proofs.Prefix.{Part, Agrees}
use Rattle.rerank.specs.Rerank.{key_at}
use Rattle.agreement.specs.Count.{key_not_after, AheadIs, Listed, CountIs, all_ranked}
use Rattle.agreement.proofs.Places.{agrees_start, agrees_turn, agrees-all}
use Rattle.agreement.proofs.Records.{RecordsTo, records-start, records_skip, records_turn, records-stop, records-end}

-- all rows below row are passed: their records hold, and n places of the list agree with them
pub record Counting (m s : List ℕ) (q : List Float) (ok : ℕ → Bool) (rs : List ℕ) (row n : ℕ) : Type 0 where
  pub records : RecordsTo m s q ok row
  pub agrees : Agrees (by_key (key_at m s q)) (order (key_at m s q)) rs (passing ok row) n

module _ {m s : List ℕ} {q : List Float} {ok : ℕ → Bool} {ks rs : List ℕ} (L : Listed m s q ok ks rs) where
  pub counting_start : Counting m s q ok rs 0 (length rs)
  counting_start = record { records = records-start m s q ok; agrees = rw (passing-none ok) (agrees_start (key_at m s q) ks rs L.keys L.up) }

  all_parts : Part (by_key (key_at m s q)) (order (key_at m s q)) rs (all_ranked m s q ok)
  all_parts =
      let le = by_key (key_at m s q) in
      let P = passing ok (rows_of m) in
      record {
        up = L.up;
        once = L.once;
        all_up = ascending-sort le (order (key_at m s q)) P;
        all_once = distinct-sort le P (rising_once P (passing_rising ok (rows_of m)));
        within = λ x i. to_sort le x P (L.within x i);
      }

  module _ {row n : ℕ} (C : Counting m s q ok rs row n) where
    pub counting_skip : ok row ≡ false → Counting m s q ok rs (row + 1) n
    counting_skip e = record { records = records_skip m s q ok C.records e; agrees = rw (passing_skip ok row e) C.agrees }

    pub counting_turn : {k r : ℕ} → row < rows_of m → ok row ≡ true → none ≡ record_refusal m s q row → k ≡ key_at m s q row
        → AheadIs (key_not_after ks rs k row) rs n row r → Counting m s q ok rs (row + 1) r
    counting_turn {k} {r} h e z y H =
        record {
          records = records_turn m s q ok C.records h e (ap (λ (x : Refusal). x.number) (sym z));
          agrees = rw (passing-more ok row e) (agrees_turn (key_at m s q) ks rs L.keys L.up C.agrees row (rw y at H));
        }

    pub counting_stop : {f : Refusal} → row < rows_of m → ok row ≡ true → (f.number ≡ 0 → ⊥) → f ≡ record_refusal m s q row
        → CountIs m s q ok rs (record { refusal = f; agreement = 0 })
    counting_stop {f} h e z y =
        record {
          refusal = y ∙ records-stop m s q ok C.records h e (rw y at z);
          agreement = sym (is-other f (same_places rs (all_ranked m s q ok)) 0 z);
        }

    pub counting_end : row ≡ rows_of m → CountIs m s q ok rs (record { refusal = none; agreement = n })
    counting_end e = record {
      refusal = records-end m s q ok C.records e;
      agreement = agrees-all (key_at m s q) ks rs L.keys L.up (rw e at C.agrees) all_parts;
    }
