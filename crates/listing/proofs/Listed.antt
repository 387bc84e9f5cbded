-- What a search that succeeds lists, of a library of at most 3,272 rows: no more places, each of which has a number as its distance; the
-- answer slices hold their lines.
use mathlib.Core.Path.{◌≡◌, refl, sym, ap, ◌∙◌}
use mathlib.Core.Logic.{inl, inr}
use mathlib.Core.Bool.{cond, not}
use mathlib.Core.List.{List, [], ◌∷◌, map, map-map}
use Prim.Native.Nat.{ℕ, zero, suc, ◌≤◌}
use native.Mathlib.Omega.{arith}
use lib.Dec.{T, eqb}
use lib.Ieee.{Float, nan, is_nan}
use lib.Ieee.Scale.{finite}
use lib.ListN.{length, drop, length-append, length-map, get_or-append}
use borrow.Author.Tests.{eqb-true, eqb-false}
use Rattle.le.specs.Le.{paste}
use Rattle.le.proofs.Chain.{by}
use Rattle.le.proofs.Pastes.{paste-first}
use Rattle.float.proofs.BitLaws.{finite_number}
use Rattle.rank.specs.Sort.{◌∈◌}
use Rattle.rank.proofs.Least.{from-least}
use Rattle.config.specs.Refusal.{none, refused, refused_or}
use Rattle.config.proofs.Refusals.{not_zero, held_number, none-refused, is_done, is-other}
use Rattle.format.specs.Head.{head_number}
use Rattle.format.specs.Same.{is_same_head}
use Rattle.format.specs.declared.Head.{Head}
use Rattle.format.proofs.Heads.{both}
use Rattle.segment.specs.Record.{record_ok}
use Rattle.search_spec.specs.Lent.{Rows, Call}
use Rattle.search_spec.specs.Lists.{original_at, by_original, candidate_rows, listed_rows}
use Rattle.search_spec.specs.Scan.{record_refusal}
use Rattle.search_spec.specs.Tests.{front_number}
use Rattle.search_spec.specs.Outcome.{Outcome, place_of, list_of, filled, late_refusal, outcome_by, searched, Searched, returned, Succeeds}
use Rattle.search_spec.specs.declared.Place.{Place}
use Rattle.search_spec.proofs.Passed.{done_front, low-limit, answers_are, count-is}
use Rattle.search_spec.proofs.Reports.{few-eligible, list_count}
use Rattle.search_spec.proofs.Keys.{late, records_each}
use Rattle.listing_text.specs.Listing.{refusal_text, listing, Numbers, most_places, line_of, lines_of}
use Rattle.listing_text.proofs.Lines.{lines_of-pasted}
use Rattle.listing_input.specs.Parts.{max_file_bytes}
use Rattle.listing.specs.Output.{answer_text}
use Rattle.listing.proofs.Most.{rows-most}
use Rattle.listing.proofs.Lent.{Alike}

-- the front of a slice that numbers were put into
numbers_map : (f : ℕ → Float) (rs : List ℕ) → ((r : ℕ) → r ∈ rs → T (not (is_nan (f r)))) → Numbers (map f rs) (length rs)
numbers_map f [] h k l = absurd (omega arith)
numbers_map f (r ∷ rs) h zero l = h r (inl refl)
numbers_map f (r ∷ rs) h (suc k) l = numbers_map f rs (λ x i. h x (inr i)) k (omega arith)

numbers_pasted : (d vs : List Float) (n : ℕ) → n ≤ length vs → Numbers vs n → Numbers (paste d 0 vs) n
numbers_pasted d vs n l h k i = rw (paste-first d vs, get_or-append vs (drop (length vs) d) nan k (omega arith)) (h k i)

held : {A : Type 0} (f : Place → A) (l : List Place) (d : List A) → length l ≤ length (paste d 0 (map f l))
held f l d = rw (paste-first d (map f l)) (omega (arith, length-append (map f l) (drop (length (map f l)) d), length-map l f))

module _ (head : Head) (rows : Rows) (c : Call) (h : Succeeds (searched head rows c)) where
  abbrev m : List ℕ
  m = c.manifest

  list-is : (searched head rows c).list ≡ list_of rows c
  unfolding searched outcome_by
  list-is = is_done (refused_or (front_number head c) (late_refusal rows c (candidate_rows rows c))) (list_of rows c) [] h

  head_passed : head_number m ≡ 0
  unfolding is_same_head
  head_passed = eqb-true (head_number m) 0 (both (done_front head rows c h).same).0

  pub count_most : length m ≤ max_file_bytes → (searched head rows c).report.count ≤ most_places
  count_most l =
      let n = list_count rows c (low-limit (done_front head rows c h)) in
      omega (arith, count-is head rows c h, n, few-eligible c, rows-most m head_passed l)

  late-none : (late_refusal rows c (candidate_rows rows c)).number ≡ 0
  unfolding searched outcome_by
  late-none = (none-refused (front_number head c) (late_refusal rows c (candidate_rows rows c)) h).1

  -- a listed row is a candidate, and so its record was looked at
  listed-number : (c.k ≡ 0 → ⊥) → (r : ℕ) → r ∈ listed_rows rows c → T (not (is_nan (original_at m c.segments c.query r)))
  unfolding listed_rows record_refusal
  listed-number z r i =
      let s = c.segments in
      let x = original_at m s c.query r in
      let l = (late rows c (candidate_rows rows c) late-none).records z in
      let e = records_each m s c.query (candidate_rows rows c) l r (from-least (by_original m s c.query) r c.k (candidate_rows rows c) i) in
      let f = (held_number (record_ok m s r) (cond (finite x) none (refused 24 r)) (refused 23 r) not_zero e).1 in
      finite_number x (rw (held_number (finite x) none (refused 24 r) not_zero f).0 tt)

  distances_are : map (λ p. p.distance) (list_of rows c) ≡ map (original_at m c.segments c.query) (listed_rows rows c)
  unfolding list_of place_of
  distances_are = map-map (λ (p : Place). p.distance) (place_of c) (listed_rows rows c)

  list_length : (searched head rows c).report.count ≡ length (list_of rows c)
  unfolding list_of
  list_length = count-is head rows c h ∙ sym (length-map (listed_rows rows c) (place_of c))

  -- there the answer slices are long enough
  pub places_held : let o = searched head rows c in (o.report.count ≤ length o.answers.ids) × (o.report.count ≤ length o.answers.distances) × (o.report.count ≤ length o.answers.rows)
  unfolding filled
  places_held =
      let l = list_of rows c in
      let a = c.answers in
      rw (answers_are head rows c h, list_length) (held (λ p. p.id) l a.ids, held (λ p. p.distance) l a.distances, held (λ p. p.row) l a.rows)

  pub numbers_listed : Numbers (searched head rows c).answers.distances (searched head rows c).report.count
  unfolding filled
  numbers_listed =
      let n = list_count rows c (low-limit (done_front head rows c h)) in
      let ds = map (original_at m c.segments c.query) (listed_rows rows c) in
      rw (answers_are head rows c h, distances_are, count-is head rows c h)
      (numbers_pasted c.answers.distances ds (length (listed_rows rows c)) (rw (length-map (listed_rows rows c) (original_at m c.segments c.query)) (omega arith))
      (by (eqb c.k 0)
      (λ z. λ k l. absurd (omega (arith, n, eqb-true c.k 0 z)))
      (λ z. numbers_map (original_at m c.segments c.query) (listed_rows rows c) (listed-number (eqb-false c.k 0 z)))))

  pub lines-listed : lines_of (searched head rows c).answers.ids (searched head rows c).answers.distances (searched head rows c).answers.rows (searched head rows c).report.count
      ≡ map line_of (searched head rows c).list
  unfolding filled
  lines-listed =
      let a = c.answers in
      rw (answers_are head rows c h, list-is) (lines_of-pasted (list_of rows c) a.ids a.distances a.rows (searched head rows c).report.count list_length)

-- ---- what is printed of an outcome, from what the search returned and left; it is that of every outcome alike
module _ (head : Head) (rows : Rows) (c : Call) (p : Outcome) (like : Alike (searched head rows c) p) (r : Searched) (e : r ≡ returned (searched head rows c)) where
  abbrev o : Outcome
  o = searched head rows c

  refusal_is : r.refusal ≡ p.refusal
  refusal_is = ap (λ (x : Searched). x.refusal) e ∙ like.refusal

  pub refusal_text_lem : (r.refusal.number ≡ 0 → ⊥) → refusal_text r.refusal ≡ answer_text p.refusal p.report p.list
  unfolding answer_text
  refusal_text_lem h = rw (← refusal_is) (sym (is-other r.refusal (listing p.report (map line_of p.list)) (refusal_text r.refusal) h))

  module _ (h : r.refusal.number ≡ 0) where
    succeeds : Succeeds o
    succeeds = rw e at h

    report-same : r.report ≡ o.report
    report-same = ap (λ (x : Searched). x.report) e

    pub few-places : length c.manifest ≤ max_file_bytes → r.report.count ≤ most_places
    few-places l = rw report-same (count_most head rows c succeeds l)

    pub places_fit : (r.report.count ≤ length o.answers.ids) × (r.report.count ≤ length o.answers.distances) × (r.report.count ≤ length o.answers.rows)
    places_fit = rw report-same (places_held head rows c succeeds)

    pub places_numbers : Numbers o.answers.distances r.report.count
    places_numbers = rw report-same (numbers_listed head rows c succeeds)

    pub places_text : listing r.report (lines_of o.answers.ids o.answers.distances o.answers.rows r.report.count) ≡ answer_text p.refusal p.report p.list
    unfolding answer_text
    places_text =
        rw (report-same, lines-listed head rows c succeeds, like.report, like.list, ← refusal_is)
        (sym (is_done r.refusal (listing p.report (map line_of p.list)) (refusal_text r.refusal) h))
