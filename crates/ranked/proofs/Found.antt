-- What scan, rerank and count leave, in the words of a call: its candidates by original order; and from there its list.
use mathlib.Core.Path.{◌≡◌, refl, sym, ap, ◌∙◌}
use mathlib.Core.Bool.{Bool, true, cond, ◌&&◌}
use mathlib.Core.List.{List, [], ◌∷◌, ◌++◌, map}
use mathlib.Core.Logic.{⊎_elim}
use Prim.Native.Nat.{ℕ, ◌≤◌, ◌<◌, min}
use native.Mathlib.Omega.{arith}
use lib.Dec.{leb}
use lib.ListN.{length, take, drop, length-take, length-append}
use lib.Seq.{take-take, take_all, take-append-le, length-take-le}
use borrow.Author.Tests.{leb-true}
use Rattle.std.specs.Prelude.{Ok}
use Rattle.le.proofs.Chain.{lt_or_le}
use Rattle.float.proofs.Keys.{key_back}
use Rattle.rank.specs.Sort.{◌∈◌, sort, least}
use Rattle.rank.specs.Rows.{passing, RowsBelow}
use Rattle.rank.proofs.Members.{take_map}
use Rattle.rank.proofs.Least.{enough, from-least}
use Rattle.rank.proofs.Rows.{count_most, rows-below}
use Rattle.config.proofs.Refusals.{is_done}
use Rattle.format.specs.Fields.{rows_of, metric_at}
use Rattle.format.proofs.Heads.{both}
use Rattle.segment.specs.Record.{vector_of}
use Rattle.quantization.specs.View.{View}
use Rattle.quantization.specs.Encoder.{base_levels}
use Rattle.search_spec.specs.declared.Room.{Room}
use Rattle.search_spec.specs.Lent.{Rows, Answers, Call, base, work_of}
use Rattle.search_spec.specs.Tests.{room_of, answers_ok, candidates_ok, room_ok}
use Rattle.search_spec.specs.Lists.{is_eligible, eligible, eligible_rows, encoded, original_at, by_approximate, by_original, candidate_rows, listed_rows}
use Rattle.search_spec.specs.Scan.{scan_refusal}
use Rattle.search_spec.specs.Outcome.{place_of, list_of, same_places}
use Rattle.search_spec.proofs.Keys.{in_library, in_eligible}
use Rattle.search_spec.proofs.Reports.{few-eligible, candidate_count, list_count}
use Rattle.scan.specs.Scan.{nearest}
use Rattle.rerank.specs.Rerank.{key_at}
use Rattle.rerank.proofs.Fits.{original-fits}
use Rattle.agreement.specs.Count.{all_ranked}
use Rattle.shortlist.specs.Shortlist.{ShortlistIs, ShortlistOutcome, shortlisted}
use Rattle.shortlist.specs.declared.Shortlisted.{Shortlisted}
use Rattle.answers.specs.Places.{place_by, places_by}
use Rattle.ranked.specs.Ends.{Fits, rest_refusal, count_of}

-- ---- the rows that a call sees, of the base's encoding and long enough
abbrev pub seen_at : (ℕ → View) → Rows
seen_at at = record { encoding = base; length_ok = true; at = at }

-- ---- slices of min(limit, rows) elements hold the candidates of the limit
pub record FoundIs (agree : Bool) (rows : Rows) (c : Call) (r : ShortlistOutcome) (ks rs : List ℕ) : Type 0 where
  pub refusal : r.refusal ≡ rest_refusal agree rows c
  pub measured : r.refusal.number ≡ 0 → r.measured ≡ length (candidate_rows rows c)
  pub total : r.refusal.number ≡ 0 → r.eligible ≡ length (eligible_rows c)
  pub listed : r.refusal.number ≡ 0 → take r.measured rs ≡ sort (by_original c.manifest c.segments c.query) (candidate_rows rows c)
  pub keys : r.refusal.number ≡ 0
      → take r.measured ks ≡ map (key_at c.manifest c.segments c.query) (sort (by_original c.manifest c.segments c.query) (candidate_rows rows c))
  pub agreement : r.refusal.number ≡ 0 → r.agreement ≡ count_of agree rows c

candidates_are : (at : ℕ → View) (c : Call)
    → nearest c.manifest at (encoded base c.query) (is_eligible c.wanted c.allowed c.manifest) (min c.limit (rows_of c.manifest)) ≡ candidate_rows (seen_at at) c
unfolding candidate_rows eligible_rows eligible
candidates_are at c =
    let m = c.manifest in
    let ok = is_eligible c.wanted c.allowed m in
    enough (by_approximate m at (encoded base c.query)) c.limit (rows_of m) (passing ok (rows_of m)) (count_most ok (rows_of m))

-- over slices of this length
found_here : {agree : Bool} (at : ℕ → View) (c : Call) {n : ℕ} {r : ShortlistOutcome} {ks rs : List ℕ} → n ≡ min c.limit (rows_of c.manifest)
    → ShortlistIs agree c.k base_levels c.manifest c.segments c.query (is_eligible c.wanted c.allowed c.manifest) at (encoded base c.query) n r ks rs
    → FoundIs agree (seen_at at) c r ks rs
unfolding scan_refusal eligible_rows eligible listed_rows least
found_here {agree} at c {n} {r} {ks} {rs} h S =
    let m = c.manifest in
    let s = c.segments in
    let q = c.query in
    let e = ap (nearest m at (encoded base q) (is_eligible c.wanted c.allowed m)) h ∙ candidates_are at c in
    record {
      refusal = S.refusal ∙ rw e;
      measured = λ z. S.measured ∙ is_done r.refusal _ 0 z ∙ ap length e;
      total = λ z. S.total ∙ is_done r.refusal _ 0 z;
      listed = λ z. S.rows z ∙ ap (sort (by_original m s q)) e;
      keys = λ z. S.keys z ∙ ap (λ l. map (key_at m s q) (sort (by_original m s q) l)) e;
      agreement =
          λ z. S.agreement ∙ ap (λ x. cond agree x 0) (is_done r.refusal _ 0 z)
          ∙ ap (λ l. cond agree (same_places (take c.k (sort (by_original m s q) l)) (all_ranked m s q (is_eligible c.wanted c.allowed m))) 0) e;
    }

pub found : {agree : Bool} (at : ℕ → View) (c : Call) {m : List ℕ} {rows n : ℕ} {ks rs : List ℕ} {r : ShortlistOutcome}
    → m ≡ c.manifest → rows ≡ rows_of m → n ≡ min c.limit rows → min c.limit rows ≤ length c.work.keys
    → ShortlistIs agree c.k base_levels m c.segments c.query (is_eligible c.wanted c.allowed m) at (encoded base c.query) (length (take n c.work.keys)) r ks rs
    → FoundIs agree (seen_at at) c r ks rs
found at c {m} {rows} {n} e p l h S =
    let q : rows ≡ rows_of c.manifest = rw e at p in
    found_here at c (length-take-le n c.work.keys (omega (arith, l, h)) ∙ l ∙ ap (min c.limit) q) (rw e at S)

-- ---- the places of a list, from its keys
places_are : (c : Call) (l : List ℕ) → places_by c.manifest (map (key_at c.manifest c.segments c.query) l) l ≡ map (place_of c) l
unfolding places_by place_by place_of key_at original_at
places_are c [] = refl
places_are c (x ∷ l) =
    let m = c.manifest in
    rw (key_back (original_at m c.segments c.query x) (original-fits (metric_at m) c.query (vector_of m c.segments x)), places_are c l)

-- ---- the front of a slice
take_min : {A : Type 0} (k n : ℕ) (xs : List A) → take (min k n) xs ≡ take k (take n xs)
take_min k n xs =
    ⊎_elim (λ (l : k < n). let e : min k n ≡ k = omega arith in rw e (sym (take-take k n xs (omega arith))))
    (λ (l : n ≤ k). let e : min k n ≡ n = omega arith in rw e (sym (take_all k (take n xs) (let h = length-take n xs in omega (arith, h)))))
    (lt_or_le k n)

front_of : {A : Type 0} (k n count : ℕ) (xs ys : List A) → count ≡ min k n → count ≤ length xs → take count (xs ++ ys) ≡ take k (take n xs)
front_of k n count xs ys e h = take-append-le count xs ys h ∙ ap (λ i. take i xs) e ∙ take_min k n xs

front_length : {A : Type 0} (count : ℕ) (xs ys : List A) → count ≤ length xs → length (take count (xs ++ ys)) ≡ count
front_length count xs ys h = ap length (take-append-le count xs ys h) ∙ length-take-le count xs h

-- of a lent slice d the first n elements came back as x; so many are taken of it
pub record Cut (n count : ℕ) (d x : List ℕ) : Type 0 where
  pub inside : count ≤ length (x ++ drop n d)
  pub taken : count ≡ length (take count (x ++ drop n d))

cut : {n count : ℕ} {d x : List ℕ} → count ≤ length x → Cut n count d x
cut {n} {count} {d} {x} h = record { inside = simp length-append (omega (arith, h)); taken = sym (front_length count x (drop n d) h) }

-- ---- the list
listed_in : (rows : Rows) (c : Call) (x : ℕ) → x ∈ listed_rows rows c → x ∈ candidate_rows rows c
unfolding listed_rows
listed_in rows c x = from-least (by_original c.manifest c.segments c.query) x c.k (candidate_rows rows c)

module _ {agree : Bool} {rows : Rows} {c : Call} {r : ShortlistOutcome} {ks rs : List ℕ} (low : c.k ≤ c.limit) (F : FoundIs agree rows c r ks rs) (z : r.refusal.number ≡ 0) where
  measured-few : r.measured ≤ min c.limit (rows_of c.manifest)
  measured-few = let e = F.measured z in let n = candidate_count rows c in let l = few-eligible c in omega (arith, e, n, l)

  count-is : min c.k r.measured ≡ length (listed_rows rows c)
  count-is = let e = F.measured z in let n = candidate_count rows c in let l = list_count rows c low in omega (arith, e, n, l)

  -- the slices as they come back, with what stands behind; so many are listed
  module _ {count : ℕ} (g h : List ℕ) (e : count ≡ min c.k r.measured) (lk : count ≤ length ks) (lr : count ≤ length rs) where
    rows-front : take count (rs ++ h) ≡ listed_rows rows c
    unfolding listed_rows least
    rows-front = front_of c.k r.measured count rs h e lr ∙ ap (take c.k) (F.listed z)

    keys-front : take count (ks ++ g) ≡ map (key_at c.manifest c.segments c.query) (listed_rows rows c)
    unfolding listed_rows least
    keys-front =
        front_of c.k r.measured count ks g e lk ∙ ap (take c.k) (F.keys z)
        ∙ take_map (key_at c.manifest c.segments c.query) c.k (sort (by_original c.manifest c.segments c.query) (candidate_rows rows c))

    shown-places : places_by c.manifest (take count (ks ++ g)) (take count (rs ++ h)) ≡ list_of rows c
    unfolding list_of
    shown-places = rw (keys-front, rows-front) (places_are c (listed_rows rows c))

    shown-below : RowsBelow (rows_of c.manifest) (take count (rs ++ h))
    shown-below = rw rows-front (rows-below (rows_of c.manifest) (listed_rows rows c) (λ x i. in_library c x (in_eligible rows c x (listed_in rows c x i))))

-- what comes back of the candidates, of which the first are listed
pub record Listed (agree : Bool) (at : ℕ → View) (c : Call) (rows n count : ℕ) (ks rs : List ℕ) (s : Shortlisted) : Type 0 where
  pub found : FoundIs agree (seen_at at) c (shortlisted (Ok s)) ks rs
  pub few : count ≤ min c.k rows
  pub keys_cut : Cut n count c.work.keys ks
  pub rows_cut : Cut n count c.work.rows rs
  pub below : RowsBelow rows (take count (rs ++ drop n c.work.rows))
  pub count_is : count ≡ length (listed_rows (seen_at at) c)
  pub places : places_by c.manifest (take count (ks ++ drop n c.work.keys)) (take count (rs ++ drop n c.work.rows)) ≡ list_of (seen_at at) c

pub listed : {agree : Bool} (at : ℕ → View) (c : Call) {m : List ℕ} {rows n count : ℕ} {ks rs : List ℕ} {s : Shortlisted}
    → m ≡ c.manifest → rows ≡ rows_of m → c.k ≤ c.limit → n ≡ min c.limit rows → Fits (min c.k rows) (min c.limit rows) (room_of c.answers c.work)
    → length ks ≡ length (take n c.work.keys) → length rs ≡ length (take n c.work.rows)
    → ShortlistIs agree c.k base_levels m c.segments c.query (is_eligible c.wanted c.allowed m) at (encoded base c.query) (length (take n c.work.keys)) (shortlisted (Ok s)) ks rs
    → count ≡ min c.k s.measured
    → Listed agree at c rows n count ks rs s
listed {agree} at c {m} {rows} {n} {count} {ks} {rs} {s} e p low l fits x y S d =
    let q : rows ≡ rows_of c.manifest = rw e at p in
    let F : FoundIs agree (seen_at at) c (shortlisted (Ok s)) ks rs = found at c e p l fits.keys S in
    let a = length-take-le n c.work.keys (let h = fits.keys in omega (arith, l, h)) in
    let b = length-take-le n c.work.rows (let h = fits.candidates in omega (arith, l, h)) in
    let f = measured-few low F refl in
    let g : count ≤ length ks = omega (arith, d, f, q, l, a, x) in
    let h : count ≤ length rs = omega (arith, d, f, q, l, b, y) in
    record {
      found = F;
      few = omega (arith, d, f, q);
      keys_cut = cut g;
      rows_cut = cut h;
      below = rw q (shown-below low F refl (drop n c.work.keys) (drop n c.work.rows) d g h);
      count_is = d ∙ count-is low F refl;
      places = shown-places low F refl (drop n c.work.keys) (drop n c.work.rows) d g h;
    }

-- ---- the room of the answers and the candidates
pub fits-room : (rows k limit ids : ℕ) (r : Room) → room_ok rows k limit ids r ≡ true → Fits (min k rows) (min limit rows) r
fits-room rows k limit ids r h =
    let n = min k rows in
    let l = min limit rows in
    let b = both {a = answers_ok n r && candidates_ok l r} {b = leb ids r.wanted} h in
    let x = both {a = answers_ok n r} {b = candidates_ok l r} b.0 in
    let y = both {a = leb l r.keys} {b = leb l r.candidates} x.1 in
    let p = both {a = leb n r.ids && leb n r.distances && leb n r.rows && leb n r.starts} {b = leb n r.lengths} x.0 in
    let q = both {a = leb n r.ids && leb n r.distances && leb n r.rows} {b = leb n r.starts} p.0 in
    let s = both {a = leb n r.ids && leb n r.distances} {b = leb n r.rows} q.0 in
    let t = both {a = leb n r.ids} {b = leb n r.distances} s.0 in
    record {
      ids = leb-true n r.ids t.0;
      distances = leb-true n r.distances t.1;
      rows = leb-true n r.rows s.1;
      starts = leb-true n r.starts q.1;
      lengths = leb-true n r.lengths p.1;
      keys = leb-true l r.keys y.0;
      candidates = leb-true l r.candidates y.1;
    }

-- the ids handed in have room
pub ids-room : (rows k limit ids : ℕ) (r : Room) → room_ok rows k limit ids r ≡ true → ids ≤ r.wanted
ids-room rows k limit ids r h =
    leb-true ids r.wanted (both {a = answers_ok (min k rows) r && candidates_ok (min limit rows) r} {b = leb ids r.wanted} h).1

-- which matters to no other slice
pub fits-other : {n l : ℕ} (a : Answers) (ks cs x y : List ℕ) → Fits n l (room_of a (work_of ks cs x)) → Fits n l (room_of a (work_of ks cs y))
fits-other a ks cs x y F =
    record { ids = F.ids; distances = F.distances; rows = F.rows; starts = F.starts; lengths = F.lengths; keys = F.keys; candidates = F.candidates }
