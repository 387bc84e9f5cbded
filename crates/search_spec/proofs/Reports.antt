-- What is reported of a call that succeeds, and what its answer slices hold: their lengths stay, and so do their elements past the list.
use mathlib.Core.Path.{◌≡◌, refl, ◌∙◌}
use mathlib.Core.Bool.{true, cond, ◌&&◌}
use mathlib.Core.List.{List, map}
use Prim.Native.Nat.{ℕ, ◌≤◌, min}
use native.Mathlib.Omega.{arith}
use lib.Dec.{leb, eqb}
use lib.ListN.{length, drop, length-map}
use borrow.Author.Tests.{leb-true}
use Rattle.le.specs.Le.{paste}
use Rattle.le.proofs.Chain.{by}
use Rattle.le.proofs.Pastes.{length_paste, paste-after}
use Rattle.rank.proofs.Least.{length_least}
use Rattle.rank.proofs.Rows.{count_most}
use Rattle.format.specs.Fields.{rows_of}
use Rattle.format.specs.declared.Head.{Head}
use Rattle.format.proofs.Heads.{both}
use Rattle.search_spec.specs.declared.Report.{Report}
use Rattle.search_spec.specs.Lent.{Rows, Answers, Call, handed}
use Rattle.search_spec.specs.Tests.{room_of, answers_ok, candidates_ok}
use Rattle.search_spec.specs.Lists.{is_eligible, eligible, eligible_rows, encoded, by_approximate, by_original, candidate_rows, listed_rows}
use Rattle.search_spec.specs.declared.Place.{Place}
use Rattle.search_spec.specs.Outcome.{measured_rows, report_of, list_of, filled, searched, Succeeds}
use Rattle.search_spec.proofs.Passed.{low-limit, done_front, report-is, answers_are, count-is}

pub few-eligible : (c : Call) → length (eligible_rows c) ≤ rows_of c.manifest
unfolding eligible_rows eligible
few-eligible c = count_most (is_eligible c.wanted c.allowed c.manifest) (rows_of c.manifest)

pub candidate_count : (rows : Rows) (c : Call) → length (candidate_rows rows c) ≡ min c.limit (length (eligible_rows c))
unfolding candidate_rows
candidate_count rows c = length_least (by_approximate c.manifest rows.at (encoded rows.encoding c.query)) c.limit (eligible_rows c)

pub list_count : (rows : Rows) (c : Call) → c.k ≤ c.limit → length (listed_rows rows c) ≡ min c.k (length (eligible_rows c))
unfolding listed_rows
list_count rows c h =
    let l = length_least (by_original c.manifest c.segments c.query) c.k (candidate_rows rows c) in
    let n = candidate_count rows c in
    omega (arith, l, n)

-- "`original_distance_computations` equals .. min(limit, eligible)", and 0 with k = 0; the count is min(k, eligible)
pub record Counted (c : Call) (r : Report) : Type 0 where
  pub eligible-is : r.eligible ≡ length (eligible_rows c)
  pub measured-is : r.measured ≡ cond (eqb c.k 0) 0 (min c.limit (length (eligible_rows c)))
  pub complete-is : r.complete ≡ true
  pub count-is : r.count ≡ min c.k (length (eligible_rows c))

-- a slice that n elements were put into
pub record Put {A : Type 0} (d o : List A) (n : ℕ) : Type 0 where
  pub size : length o ≡ length d
  pub rest : drop n o ≡ drop n d

module _ (head : Head) (rows : Rows) (c : Call) (h : Succeeds (searched head rows c)) where
  pub counted : Counted c (searched head rows c).report
  unfolding report_of measured_rows
  counted =
      rw (report-is head rows c h) (
      record {
        eligible-is = refl;
        measured-is = by (eqb c.k 0) (λ e. rw e) (λ e. rw e (candidate_count rows c));
        complete-is = refl;
        count-is = list_count rows c (low-limit (done_front head rows c h));
      }
      )

  put : {A : Type 0} (d : List A) (f : Place → A) → leb (min c.k (rows_of c.manifest)) (length d) ≡ true
      → Put d (paste d 0 (map f (list_of rows c))) (length (listed_rows rows c))
  unfolding list_of
  put d f l =
      let n = length-map (list_of rows c) f ∙ length-map (listed_rows rows c) _ in
      let t = list_count rows c (low-limit (done_front head rows c h)) in
      let k = few-eligible c in
      let j = leb-true (min c.k (rows_of c.manifest)) (length d) l in
      record {
        size = length_paste d (map f (list_of rows c)) 0 (omega (arith, n, t, k, j));
        rest = paste-after d (map f (list_of rows c)) 0 (length (listed_rows rows c)) (omega arith) (omega (arith, n));
      }

  -- "Answer slices past the list stay"
  pub record Kept (o : Answers) : Type 0 where
    pub ids : Put c.answers.ids o.ids (length (listed_rows rows c))
    pub distances : Put c.answers.distances o.distances (length (listed_rows rows c))
    pub rows-kept : Put c.answers.rows o.rows (length (listed_rows rows c))
    pub starts : Put c.answers.starts o.starts (length (listed_rows rows c))
    pub lengths : Put c.answers.lengths o.lengths (length (listed_rows rows c))

  pub kept : Kept (searched head rows c).answers
  unfolding filled
  kept =
      let n = min c.k (rows_of c.manifest) in
      let a = c.answers in
      let o = room_of a c.work in
      let b = both {a = answers_ok n o && candidates_ok (min c.limit (rows_of c.manifest)) o} {b = leb (handed c.wanted) (length c.work.ids)} (done_front head rows c h).room in
      let x = both {a = answers_ok n o} {b = candidates_ok (min c.limit (rows_of c.manifest)) o} b.0 in
      let p = both {a = leb n (length a.ids) && leb n (length a.distances) && leb n (length a.rows) && leb n (length a.starts)} {b = leb n (length a.lengths)} x.0 in
      let q = both {a = leb n (length a.ids) && leb n (length a.distances) && leb n (length a.rows)} {b = leb n (length a.starts)} p.0 in
      let r = both {a = leb n (length a.ids) && leb n (length a.distances)} {b = leb n (length a.rows)} q.0 in
      let s = both {a = leb n (length a.ids)} {b = leb n (length a.distances)} r.0 in
      rw (answers_are head rows c h) (
      record {
        ids = put a.ids (λ p. p.id) s.0;
        distances = put a.distances (λ p. p.distance) s.1;
        rows-kept = put a.rows (λ p. p.row) r.1;
        starts = put a.starts (λ p. p.start) q.1;
        lengths = put a.lengths (λ p. p.length) p.1;
      }
      )
