-- Demand 3, (1) to (3).
use mathlib.Core.Path.{◌≡◌, refl, sym, ap, ap₂, ◌∙◌}
use mathlib.Core.Bool.{Bool, true}
use mathlib.Core.List.{List}
use Prim.Native.Nat.{ℕ, ◌≤◌, min}
use native.Mathlib.Omega.{arith}
use lib.Dec.{leb, ltb}
use lib.IntN.{ℤ}
use lib.ListN.{length, get_or}
use lib.Ieee.{Float}
use borrow.Author.Tests.{ltb-true, ltb-false, le-leb, lt-leb}
use Rattle.le.proofs.Chain.{by}
use Rattle.rank.specs.Sort.{◌∈◌, TotalOrder, sort, Least}
use Rattle.rank.specs.Order.{by_distance}
use Rattle.rank.specs.Limit.{candidates, listed, exact, LimitTheorem}
use Rattle.rank.proofs.Rows.{passing_rising}
use Rattle.rank.proofs.Sort.{length_sort, from-sort, to_sort, distinct-sort, ascending-sort}
use Rattle.rank.proofs.Order.{Rising, distance-order, by_distances}
use Rattle.rank.proofs.Agree.{Agree, Least_agree}
use Rattle.config.proofs.Refusals.{none-refused}
use Rattle.format.specs.Fields.{rows_of, id_at}
use Rattle.format.specs.declared.Head.{Head}
use Rattle.format.proofs.Same.{same_parts}
use Rattle.entries.specs.Plan.{rows_ok}
use Rattle.entries.proofs.Entries.{rows_by, ids_rise}
use Rattle.quantized_cache.specs.declared.CacheState.{CacheState}
use Rattle.resident.specs.declared.ResidentState.{ResidentState}
use Rattle.search_spec.specs.Lent.{Rows, Call}
use Rattle.search_spec.specs.Tests.{front_number}
use Rattle.search_spec.specs.Lists.{is_eligible, eligible, eligible_rows, encoded, original_at, by_approximate, by_original, candidate_rows, listed_rows}
use Rattle.search_spec.specs.declared.Place.{Place}
use Rattle.search_spec.specs.Outcome.{place_of, report_of, late_refusal, outcome_by, searched, Succeeds}
use Rattle.search_spec.specs.Kept.{cached_rows, resident_rows, cached, resident}
use Rattle.search_spec.proofs.Passed.{low-limit, done_front, report-is, shown-is, rows-shown}
use Rattle.search_spec.proofs.Reports.{list_count, counted}
use Rattle.search_spec.proofs.Keys.{late, in_library}
use Rattle.theorems.specs.Words.{Shares, not_after, TrueNearest}
use Rattle.theorems.specs.Demand.{Lists, Improves}

-- the k least are true nearest strokes
pub nearest-least : (c : Call) (l : List ℕ) → Least (by_original c.manifest c.segments c.query) c.k (eligible_rows c) l → TrueNearest c l
nearest-least c l L = record { count = L.size; strokes = L.within; once = L.distinct; others = L.others }

-- the entries of a library that is searched have passed
pub rows_pass : (head : Head) (rows : Rows) (c : Call) → Succeeds (searched head rows c) → rows_ok c.manifest ≡ true
unfolding searched outcome_by
rows_pass head rows c h =
    let looked = candidate_rows rows c in
    let f = same_parts c.manifest head (done_front head rows c h).same in
    rows_by c.manifest f.2 (late rows c looked (none-refused (front_number head c) (late_refusal rows c looked) h).1).entries

-- so ids rise with rows, and the lists obey the limit theorem, whatever the approximate order
module _ (near : ℕ → ℕ → Bool) (c : Call) (ok : rows_ok c.manifest ≡ true) where
  abbrev distance : ℕ → Float
  distance = original_at c.manifest c.segments c.query

  abbrev le : ℕ → ℕ → Bool
  le = by_original c.manifest c.segments c.query

  rising : Rising (id_at c.manifest) (eligible_rows c)
  rising r s i j l = ids_rise c.manifest r s ok l (in_library c s j)

  pub limits : LimitTheorem near le (eligible_rows c)
  limits =
      by_distances distance (id_at c.manifest) near (eligible_rows c)
      (unfold eligible_rows eligible in passing_rising (is_eligible c.wanted c.allowed c.manifest) (rows_of c.manifest))
      rising

  -- on eligible rows the order by id is that by row, which is total
  abbrev by_row : ℕ → ℕ → Bool
  by_row = by_distance distance (λ r. r)

  total : TotalOrder by_row
  total = distance-order distance (λ r. r) (λ r s e. e)

  same-order : Agree by_row le (eligible_rows c)
  unfolding by_distance
  same-order r s i j =
      let id = id_at c.manifest in
      let e : leb (id r) (id s) ≡ leb r s =
      by (ltb s r)
      (λ e. let h = ltb-true s r e in lt-leb (id r) (id s) (rising s r j i h) ∙ sym (lt-leb r s h))
      (λ e. by (ltb r s)
      (λ f. let h = ltb-true r s f in let k = rising r s i j h in le-leb (id r) (id s) (omega (arith, k)) ∙ sym (le-leb r s (omega (arith, h))))
      (λ f. let q : r ≡ s = omega (arith, ltb-false s r e, ltb-false r s f) in rw q (le-leb (id s) (id s) (omega arith) ∙ sym (le-leb s s (omega arith))))) in
      rw e

  -- the true nearest, whatever their order, are the exact list's
  nearest-exact : (l : List ℕ) → TrueNearest c l → (r : ℕ) → r ∈ l → r ∈ exact near le (eligible_rows c) c.k
  nearest-exact l t r i =
      let s = sort by_row l in
      let L : Least by_row c.k (eligible_rows c) s =
      record {
        size = length_sort by_row l ∙ t.count;
        within = λ x m. t.strokes x (from-sort by_row x l m);
        distinct = distinct-sort by_row l t.once;
        ascending = ascending-sort by_row total l;
        others = λ x y m n k.
            let p = from-sort by_row x l m in
            sym (same-order y x n (t.strokes x p)) ∙ t.others x y p n (λ z. k (to_sort by_row y l z));
      } in
      rw (limits.exact-only c.k s (Least_agree by_row le c.k (eligible_rows c) s same-order L)) at (to_sort by_row r l i)

-- ---- the lists of a call

-- the approximate order of these rows
abbrev pub near : Rows → Call → ℕ → ℕ → Bool
near rows c = by_approximate c.manifest rows.at (encoded rows.encoding c.query)

-- the list of d, by what it shares with c
listed-is : (rows : Rows) (c d : Call) → Shares c d
    → listed_rows rows d ≡ listed (near rows c) (by_original c.manifest c.segments c.query) (eligible_rows c) c.k d.limit
unfolding listed_rows candidate_rows listed candidates
listed-is rows c d s = rw (s.strokes, s.manifest, s.segments, s.query, s.k)

place_is : (c d : Call) → Shares c d → (r : ℕ) → place_of d r ≡ place_of c r
unfolding place_of
place_is c d s r = rw (s.manifest, s.segments, s.query)

own : (c : Call) → Shares c c
own c = record { manifest = refl; segments = refl; query = refl; k = refl; strokes = refl }

-- ---- one call
pub lists : (head : Head) (rows : Rows) (c : Call) → Succeeds (searched head rows c) → Lists c (searched head rows c)
unfolding place_of report_of
lists head rows c h =
    let ok = rows_pass head rows c h in
    let T = limits (near rows c) c ok in
    let e = rows-shown head rows c h ∙ listed-is rows c c (own c) in
    let n : length (listed_rows rows c) ≡ min c.k (length (eligible_rows c)) = list_count rows c (low-limit (done_front head rows c h)) in
    let L = T.listed_are c.k c.limit in
    let R = counted head rows c h in
    let P = report-is head rows c h in
    record {
      generation = rw P;
      sequence = rw P;
      eligible = R.eligible-is;
      measured = R.measured-is;
      complete = R.complete-is;
      approximate = rw P;
      count = R.count-is;
      size = ap length (rows-shown head rows c h) ∙ n;
      strokes = λ r i. T.within c.k c.limit r (rw e at i);
      once = rw e L.distinct;
      order = rw e L.ascending;
      places = λ i t.
          let p = shown-is head rows c h i (rw n t) in
          p ∙ ap (λ (x : Place). place_of c x.row) (sym p);
      nearest = exact (near rows c) (by_original c.manifest c.segments c.query) (eligible_rows c) c.k;
      nearest_are = nearest-least c _ (T.exact_are c.k);
      exact = λ t. rw (e, T.whole c.k c.limit t) (nearest-least c _ (T.exact_are c.k));
    }

-- ---- two calls, of rows that list the same
pub improves : (v w : Rows) (c d : Call) (g h : Head) → listed_rows w d ≡ listed_rows v d → Shares c d
    → Succeeds (searched g v c) → Succeeds (searched h w d) → c.limit ≤ d.limit
    → Improves c (searched g v c) (searched h w d)
improves v w c d g h same s p q l =
    let ok = rows_pass g v c p in
    let T = limits (near v c) c ok in
    let k = low-limit (done_front g v c p) in
    let e = listed-is v c c (own c) in
    let f = same ∙ listed-is v c d s in
    let n : length (listed_rows v c) ≡ min c.k (length (eligible_rows c)) = list_count v c k in
    let o : length (listed_rows w d) ≡ min c.k (length (eligible_rows c)) = ap length f ∙ T.size c.k d.limit (omega arith) in
    record {
      better = λ i t.
          ap₂ not_after
          (shown-is h w d q i (rw o t) ∙ place_is c d s (get_or (listed_rows w d) i 0) ∙ ap (λ (x : List ℕ). place_of c (get_or x i 0)) f)
          (shown-is g v c p i (rw n t) ∙ ap (λ (x : List ℕ). place_of c (get_or x i 0)) e)
          ∙ (unfold place_of by_distance in T.better c.k c.limit d.limit i k l t);
      keeps = λ x t r i j.
          rw (rows-shown h w d q, f) (T.keeps c.k c.limit d.limit r l (nearest-exact (near v c) c ok x t r i) (rw (rows-shown g v c p, e) at j));
    }

-- ---- the two kinds of rows, with two states

cached-same : (c d : Call) (state other : CacheState) (cache : List ℕ) → Shares c d
    → listed_rows (cached_rows d.manifest other cache) d ≡ listed_rows (cached_rows c.manifest state cache) d
unfolding listed_rows candidate_rows cached_rows
cached-same c d state other cache s = rw s.manifest

resident-same : (c d : Call) (state other : ResidentState) (codes : List ℤ) (scales : List Float) (norms : List ℤ) → Shares c d
    → listed_rows (resident_rows d.manifest other codes scales norms) d ≡ listed_rows (resident_rows c.manifest state codes scales norms) d
unfolding listed_rows candidate_rows resident_rows
resident-same c d state other codes scales norms s = rw s.manifest

pub improves_cached : (c d : Call) (state other : CacheState) (cache : List ℕ) → Shares c d
    → Succeeds (cached state cache c) → Succeeds (cached other cache d) → c.limit ≤ d.limit
    → Improves c (cached state cache c) (cached other cache d)
improves_cached c d state other cache s =
    improves (cached_rows c.manifest state cache) (cached_rows d.manifest other cache) c d state.head other.head (cached-same c d state other cache s) s

pub improves_resident : (c d : Call) (state other : ResidentState) (codes : List ℤ) (scales : List Float) (norms : List ℤ) → Shares c d
    → Succeeds (resident state codes scales norms c) → Succeeds (resident other codes scales norms d) → c.limit ≤ d.limit
    → Improves c (resident state codes scales norms c) (resident other codes scales norms d)
improves_resident c d state other codes scales norms s =
    improves (resident_rows c.manifest state codes scales norms) (resident_rows d.manifest other codes scales norms) c d state.head other.head
    (resident-same c d state other codes scales norms s) s
