-- What the scan keeps is what the rerank takes.
use mathlib.Core.Path.{◌≡◌, sym, ap, ◌∙◌}
use mathlib.Core.Bool.{Bool, cond}
use mathlib.Core.List.{List, map, ◌++◌}
use Prim.Native.Nat.{ℕ, ◌^◌, ◌≤◌, ◌<◌, min}
use native.Mathlib.Omega.{arith}
use lib.Dec.{leb, eqb}
use lib.Ieee.{Float}
use lib.ListN.{length, get_or, take, length-map, length-take}
use lib.Seq.{take_at, take_all}
use Rattle.le.proofs.Chain.{by}
use Rattle.rank.specs.Sort.{◌∈◌, Distinct, sort, least}
use Rattle.rank.specs.Rows.{passing}
use Rattle.rank.proofs.Members.{mem_take, all-at, pairwise_take}
use Rattle.rank.proofs.Sort.{from-sort, to_sort, distinct-sort}
use Rattle.rank.proofs.Least.{length_least, from-least}
use Rattle.rank.proofs.Limit.{rising_once}
use Rattle.rank.proofs.Rows.{passing_pass, passing_rising}
use Rattle.rank.proofs.Rekeyed.{rows_alone}
use Rattle.config.specs.Refusal.{Refusal, none}
use Rattle.config.proofs.Refusals.{then_rest, is_done}
use Rattle.quantization.specs.View.{View}
use Rattle.format.specs.Fields.{rows_of}
use Rattle.search_spec.specs.Lists.{by_approximate}
use Rattle.search_spec.specs.Scan.{rows_refusal, records_refusal}
use Rattle.scan.specs.Scan.{near_key, nearest, ScanIs, ScanOutcome}
use Rattle.shortlist.specs.Shortlist.{KeptRows, RankedIs, ShortlistIs, ShortlistOutcome}

-- what a scan returned and left
module _ {levels : ℕ} {m : List ℕ} {eligible : ℕ → Bool} {view : ℕ → View} {query : View} {limit : ℕ} {r : ScanOutcome} {ks rs : List ℕ}
    (S : ScanIs levels m eligible view query limit r ks rs) where
  abbrev C : List ℕ
  C = nearest m view query eligible limit

  abbrev P : List ℕ
  P = passing eligible (rows_of m)

  abbrev first : Refusal
  first = rows_refusal levels m eligible view query

  fits : r.count ≤ limit
  fits = by (eqb first.number 0)
      (λ e. let c : r.count ≡ min limit (length P) = S.count ∙ rw e in omega arith)
      (λ e. let c : r.count ≡ 0 = S.count ∙ rw e in omega arith)

  -- a slice is cut to the count
  pub cut : (l : List ℕ) → length l ≡ limit → length (take r.count l) ≡ r.count
  cut l h = let f = fits in length-take r.count l ∙ omega arith

  in_P : (n : ℕ) → n ∈ C → n ∈ P
  in_P n h = from-least (by_approximate m view query) n limit P h

  once-C : Distinct C
  unfolding least
  once-C = pairwise_take _ limit (sort (by_approximate m view query) P) (distinct-sort (by_approximate m view query) P (rising_once P (passing_rising eligible (rows_of m))))

  module _ (few : rows_of m ≤ 1000000) (keys-long : length ks ≡ limit) (rows_long : length rs ≡ limit) (words : (i : ℕ) → get_or rs i 0 < 2 ^ 64) (z : r.refusal.number ≡ 0) where
    no_first : first.number ≡ 0
    no_first = ap (λ (x : Refusal). x.number) (sym S.refusal) ∙ z

    rows_are : sort leb (take r.count rs) ≡ sort leb C
    rows_are =
        rows_alone (take r.count ks) (take r.count rs) (map (near_key m view query) C) C
        (cut ks keys-long ∙ sym (cut rs rows_long)) (length-map C (near_key m view query))
        (λ n h. all-at (λ z. z < 2 ^ 64) rs 0 (λ i l. words i) n (mem_take n r.count rs h)) (λ n h. let l = (passing_pass eligible (rows_of m) n (in_P n h)).0 in omega arith) (S.kept z)

    pub kept : KeptRows m eligible r.eligible (take r.count rs)
    kept = record {
      total = S.total ∙ is_done first (length P) 0 no_first;
      once = rw rows_are (distinct-sort leb C once-C);
      within = λ n i. in_P n (from-sort leb n C (rw rows_are at (to_sort leb n (take r.count rs) i)));
    }

    counted : length C ≡ r.count
    counted = length_least (by_approximate m view query) limit P ∙ sym (S.count ∙ is_done first (min limit (length P)) 0 no_first)

    -- e and f are what was made of the kept rows, and stand before the rest
    pub joined : {agree : Bool} {k : ℕ} {s : List ℕ} {q : List Float} {a : ShortlistOutcome} {e f : List ℕ} → length e ≡ length (take r.count ks) → length f ≡ length (take r.count rs)
        → ((candidates : List ℕ) → sort leb (take r.count rs) ≡ sort leb candidates → RankedIs none agree k m s q eligible candidates a e f) → (g h : List ℕ)
        → ShortlistIs agree k levels m s q eligible view query limit a (e ++ g) (f ++ h)
    joined {agree} {k} {s} {q} {a} {e} {f} le lf ranked g h =
        let R = ranked C rows_are in
        let n : a.refusal.number ≡ 0 → a.measured ≡ r.count = λ y. R.measured ∙ is_done a.refusal (length C) 0 y ∙ counted in
        record {
          refusal = R.refusal ∙ sym (then_rest first (records_refusal m s q (cond agree P C)) no_first);
          measured = R.measured;
          total = R.total;
          rows = λ y. front f h (lf ∙ cut rs rows_long) (n y) ∙ R.rows y;
          keys = λ y. front e g (le ∙ cut ks keys-long) (n y) ∙ R.keys y;
          agreement = R.agreement;
        }
      where
        -- as many as stand there are taken
        front : (e g : List ℕ) {i : ℕ} → length e ≡ r.count → i ≡ r.count → take i (e ++ g) ≡ take i e
        front e g l q = rw q (take_at e g r.count l ∙ sym (take_all r.count e (omega arith)))
