-- The agreement call leaves the answer slices as the search would (document 01, The report).
use mathlib.Core.Path.{◌≡◌, refl, sym, ap, ◌∙◌}
use mathlib.Core.Bool.{true}
use mathlib.Core.Logic.{inl, inr, ⊎_elim}
use mathlib.Core.List.{List, [], ◌∷◌, map}
use Prim.Native.Nat.{ℕ, zero, suc, ◌≤◌, ◌<◌}
use native.Mathlib.Omega.{arith}
use lib.Dec.{leb, eqb}
use lib.Ieee.{Float}
use lib.ListN.{length, get_or, take}
use borrow.Author.Tests.{eqb-true, eqb-false, eq-eqb, ne_eqb}
use Rattle.float.specs.Order.{keyed}
use Rattle.le.proofs.Chain.{by, lt_or_le}
use Rattle.rank.specs.Sort.{◌∈◌, Pairwise, sort, least}
use Rattle.rank.specs.Limit.{by_key, candidates, listed}
use Rattle.rank.proofs.Members.{mem-get_or}
use Rattle.rank.proofs.Sort.{from-sort, to_sort, distinct-sort, ascending-sort}
use Rattle.rank.proofs.Least.{length_least, from-least}
use Rattle.rank.proofs.Rows.{passing_rising}
use Rattle.rank.proofs.ByKey.{order}
use Rattle.rank.proofs.Limit.{by_keys, rising_once}
use Rattle.config.specs.Refusal.{Refusal, none, refused_or}
use Rattle.config.proofs.Refusals.{none-refused, goes_on, is_done}
use Rattle.format.specs.Fields.{rows_of, id_at}
use Rattle.format.specs.declared.Head.{Head}
use Rattle.search_spec.specs.Lent.{Rows, Call, Singles}
use Rattle.search_spec.specs.Tests.{front_number}
use Rattle.search_spec.specs.Lists.{is_eligible, eligible, eligible_rows, encoded, original_at, by_approximate, by_original, candidate_rows, listed_rows, exact_rows}
use Rattle.search_spec.specs.Scan.{record_refusal, scan_refusal, records_refusal}
use Rattle.search_spec.specs.Outcome.{list_of, same_places, agreement_of, filled, late_refusal, outcome_by, searched, agreed, Succeeds}
use Rattle.format.proofs.Refusals.{all_none}
use Rattle.format.proofs.Same.{same_parts}
use Rattle.entries.specs.Plan.{bad_entry, rows_ok}
use Rattle.entries.proofs.Entries.{ids_rise, rows_by}
use Rattle.search_spec.proofs.Passed.{Front, done_front}
use Rattle.search_spec.proofs.Prefix.{prefix, Part, same-prefix}
use Rattle.search_spec.proofs.Keys.{Late, late, records_each, in_library, in_eligible, list_by_key, exact_by_key}

-- fewer records to look at
pub records-fewer : (m s : List ℕ) (query : List Float) (looked more : List ℕ) → ((r : ℕ) → r ∈ looked → r ∈ more) → (records_refusal m s query more).number ≡ 0 → records_refusal m s query looked ≡ none
unfolding records_refusal
records-fewer m s query looked more i h =
    let rs = sort leb looked in
    all_none (λ j. record_refusal m s query (get_or rs j 0)) (length rs) (λ j l. records_each m s query more h (get_or rs j 0) (i (get_or rs j 0) (from-sort leb (get_or rs j 0) looked (mem-get_or rs j 0 l))))

late-fewer : (rows : Rows) (c : Call) (looked more : List ℕ) → ((r : ℕ) → r ∈ looked → r ∈ more) → (late_refusal rows c more).number ≡ 0 → (late_refusal rows c looked).number ≡ 0
unfolding late_refusal
late-fewer rows c looked more i h =
    let t = late rows c more h in
    rw (eq-eqb (bad_entry c.manifest) (rows_of c.manifest) t.entries)
    (by (eqb c.k 0) (λ e. rw e)
    (λ e. let n = eqb-false c.k 0 e in
    rw (e, eq-eqb (scan_refusal rows c).number 0 (t.scan n), records-fewer c.manifest c.segments c.query looked more i (t.records n))))

module _ (head : Head) (rows : Rows) (c : Call) (h : Succeeds (agreed head rows c)) where
  -- where the agreement call succeeds, the search does
  pub search_succeeds : Succeeds (searched head rows c)
  unfolding searched agreed outcome_by
  search_succeeds =
      let p = none-refused (front_number head c) (late_refusal rows c (eligible_rows c)) h in
      ap (λ (r : Refusal). r.number) (goes_on (front_number head c) (late_refusal rows c (candidate_rows rows c)) p.0)
      ∙ late-fewer rows c (candidate_rows rows c) (eligible_rows c) (in_eligible rows c) p.1

  -- and the answer slices are its
  pub same-answers : (agreed head rows c).answers ≡ (searched head rows c).answers
  unfolding searched agreed outcome_by
  same-answers =
      let f = filled (list_of rows c) c.answers in
      is_done (refused_or (front_number head c) (late_refusal rows c (eligible_rows c))) f c.answers h
      ∙ sym (is_done (refused_or (front_number head c) (late_refusal rows c (candidate_rows rows c))) f c.answers search_succeeds)

-- ---- the count, in rows

same_places_map : (f : ℕ → ℕ) (xs ys : List ℕ) → ((x y : ℕ) → x ∈ xs → y ∈ ys → f x ≡ f y → x ≡ y) → same_places (map f xs) (map f ys) ≡ same_places xs ys
unfolding same_places
same_places_map f [] ys h = refl
same_places_map f (x ∷ xs) [] h = refl
same_places_map f (x ∷ xs) (y ∷ ys) h =
    let i = same_places_map f xs ys (λ u v m n. h u v (inr m) (inr n)) in
    by (eqb x y)
    (λ e. rw (e, eq-eqb (f x) (f y) (ap f (eqb-true x y e)), i))
    (λ e. rw (e, ne_eqb (f x) (f y) (λ q. eqb-false x y e (h x y (inl refl) (inl refl) q)), i))

-- only as many places as the first has
same_places_take : (k : ℕ) (xs ys : List ℕ) → length xs ≤ k → same_places xs (take k ys) ≡ same_places xs ys
unfolding same_places
same_places_take k [] ys h = refl
same_places_take zero (x ∷ xs) ys h = absurd (omega arith)
same_places_take (suc k) (x ∷ xs) [] h = refl
same_places_take (suc k) (x ∷ xs) (y ∷ ys) h = rw (same_places_take k xs ys (omega arith))

-- an id is one row's
one-row : (m : List ℕ) → rows_ok m ≡ true → (x y : ℕ) → x < rows_of m → y < rows_of m → id_at m x ≡ id_at m y → x ≡ y
one-row m up x y h k q =
    ⊎_elim
    (λ (l : x < y). absurd (omega (arith, ids_rise m x y up l k)))
    (λ (l : y ≤ x). ⊎_elim (λ (g : y < x). absurd (omega (arith, ids_rise m y x up g h))) (λ (g : x ≤ y). omega arith) (lt_or_le y x))
    (lt_or_le x y)

module _ (head : Head) (rows : Rows) (c : Call) (h : Succeeds (agreed head rows c)) (f : Singles c.query) where
  abbrev key : ℕ → ℕ
  key r = keyed (original_at c.manifest c.segments c.query r)

  -- all eligible rows by original distance and row
  abbrev pub ranked : List ℕ
  ranked = sort (by_key key) (eligible_rows c)

  passed : Front head c
  passed = done_front head rows c (search_succeeds head rows c h)

  tests : Late rows c (eligible_rows c)
  unfolding agreed outcome_by
  tests = late rows c (eligible_rows c) (none-refused (front_number head c) (late_refusal rows c (eligible_rows c)) h).1

  entered : rows_ok c.manifest ≡ true
  entered = rows_by c.manifest (same_parts c.manifest head passed.same).2 tests.entries

  rising : Pairwise ◌<◌ (eligible_rows c)
  unfolding eligible_rows eligible
  rising = passing_rising (is_eligible c.wanted c.allowed c.manifest) (rows_of c.manifest)

  few : length (listed_rows rows c) ≤ c.k
  unfolding listed_rows
  few = let l = length_least (by_original c.manifest c.segments c.query) c.k (candidate_rows rows c) in unfold candidate_rows in omega (arith, l)

  module _ (n : c.k ≡ 0 → ⊥) where
    list-is : listed_rows rows c ≡ listed (by_approximate c.manifest rows.at (encoded rows.encoding c.query)) (by_key key) (eligible_rows c) c.k c.limit
    unfolding candidate_rows candidates listed
    list-is =
        let m = c.manifest in
        let r = ap (λ (x : Refusal). x.number) (records-fewer m c.segments c.query (candidate_rows rows c) (eligible_rows c) (in_eligible rows c) (tests.records n)) in
        list_by_key rows c entered (same_parts m head passed.same).0 f passed.query r

    pub parts : Part (by_key key) (order key) (listed_rows rows c) ranked
    parts =
        let T = by_keys (by_approximate c.manifest rows.at (encoded rows.encoding c.query)) key (eligible_rows c) rising in
        let L = T.listed_are c.k c.limit in
        rw list-is (
        record {
          up = L.ascending;
          once = L.distinct;
          all_up = ascending-sort (by_key key) (order key) (eligible_rows c);
          all_once = distinct-sort (by_key key) (eligible_rows c) (rising_once (eligible_rows c) rising);
          within = λ x i. to_sort (by_key key) x (eligible_rows c) (T.within c.k c.limit x i);
        }
        )

    count-some : agreement_of rows c ≡ same_places (listed_rows rows c) ranked
    unfolding agreement_of least
    count-some =
        let m = c.manifest in
        let e = exact_by_key rows c entered (same_parts m head passed.same).0 f passed.query (tests.records n) in
        let in_list : (x : ℕ) → x ∈ listed_rows rows c → x < rows_of m = λ x i. in_library c x (from-sort (by_key key) x (eligible_rows c) (parts.within x i)) in
        let in-exact : (x : ℕ) → x ∈ exact_rows c → x < rows_of m = λ x i. in_library c x (from-least (by_key key) x c.k (eligible_rows c) (rw e at i)) in
        same_places_map (id_at m) (listed_rows rows c) (exact_rows c) (λ x y i j q. one-row m entered x y (in_list x i) (in-exact y j) q)
        ∙ ap (same_places (listed_rows rows c)) e
        ∙ same_places_take c.k (listed_rows rows c) ranked few

  -- with k = 0 nothing is listed
  list-none : c.k ≡ 0 → listed_rows rows c ≡ []
  unfolding listed_rows least
  list-none z = ap (λ (k : ℕ). least (by_original c.manifest c.segments c.query) k (candidate_rows rows c)) z

  -- the count is that of rows, over all eligible ones
  pub count-rows : agreement_of rows c ≡ same_places (listed_rows rows c) ranked
  count-rows =
      by (eqb c.k 0)
      (λ e. unfold agreement_of in unfold same_places in rw (list-none (eqb-true c.k 0 e)))
      (λ e. count-some (eqb-false c.k 0 e))

  count-prefix : same_places (listed_rows rows c) ranked ≡ prefix (listed_rows rows c) ranked
  count-prefix =
      by (eqb c.k 0)
      (λ e. unfold same_places in unfold prefix in rw (list-none (eqb-true c.k 0 e)))
      (λ e. same-prefix (by_key key) (order key) (listed_rows rows c) ranked (parts (eqb-false c.k 0 e)))

  -- the agreement count: the places before the first at which the list and all eligible rows in order differ. With the laws of Prefix: as many as
  -- rows of the list come before the least eligible row that is not listed
  pub agreement-is : (agreed head rows c).agreement ≡ prefix (listed_rows rows c) ranked
  unfolding agreed outcome_by
  agreement-is =
      is_done (refused_or (front_number head c) (late_refusal rows c (eligible_rows c))) (agreement_of rows c) 0 h
      ∙ count-rows ∙ count-prefix
