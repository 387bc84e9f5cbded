-- What a call that succeeds has passed, and what it leaves.
use mathlib.Core.Path.{◌≡◌, refl, sym, ap, ◌∙◌}
use mathlib.Core.Bool.{true, false}
use mathlib.Core.List.{List, [], ◌∷◌, map, map-map, map-id}
use Prim.Native.Nat.{ℕ, zero, suc, ◌≤◌, ◌<◌}
use native.Mathlib.Omega.{arith}
use lib.ListN.{length, get_or, take, drop, length-map, get_or-append, get_or-map}
use lib.Seq.{take_at}
use borrow.Author.Tests.{leb-true}
use Rattle.le.specs.Le.{paste}
use Rattle.le.proofs.Chain.{held}
use Rattle.le.proofs.Pastes.{paste-first}
use Rattle.float.specs.Values.{plus_zero}
use Rattle.config.specs.Refusal.{Refusal, refused_or}
use Rattle.config.proofs.Refusals.{not_zero, none-refused, is_done}
use Rattle.format.specs.Fields.{rows_of}
use Rattle.format.specs.Same.{is_same_head}
use Rattle.format.specs.declared.Head.{Head}
use Rattle.format.proofs.Heads.{both}
use Rattle.format.proofs.Refusals.{or_else_lem}
use Rattle.search_spec.specs.Lent.{Rows, Call, handed}
use Rattle.search_spec.specs.Tests.{ids_ok, head_ok, query_ok, most_ok, limit_ok, room_of, room_ok, open_by, query_by, front_by, front_number}
use Rattle.search_spec.specs.Lists.{candidate_rows, listed_rows}
use Rattle.search_spec.specs.declared.Place.{Place}
use Rattle.search_spec.specs.Outcome.{place_of, report_of, list_of, filled, late_refusal, outcome_by, searched, Succeeds, shown, shown_rows}

pub record Front (head : Head) (c : Call) : Type 0 where
  pub ids : ids_ok (handed c.wanted) ≡ true
  pub same : is_same_head c.manifest head ≡ true
  pub query : query_ok c.manifest c.query ≡ true
  pub most : most_ok c.k ≡ true
  pub limit : limit_ok c.k c.limit ≡ true
  pub room : room_ok (rows_of c.manifest) c.k c.limit (handed c.wanted) (room_of c.answers c.work) ≡ true

pub front : (head : Head) (c : Call) → front_number head c ≡ 0 → Front head c
unfolding front_by open_by query_by
front head c h =
    let m = c.manifest in
    let ids = handed c.wanted in
    let p = or_else_lem (open_by head m ids) (query_by m ids c.query c.k c.limit (room_of c.answers c.work)) h in
    let i = held (ids_ok ids) not_zero p.0 in
    let d = held (head_ok head m) not_zero i.1 in
    let q = held (query_ok m c.query) not_zero p.1 in
    let t = held (most_ok c.k) not_zero q.1 in
    let l = held (limit_ok c.k c.limit) not_zero t.1 in
    let r = held (room_ok (rows_of m) c.k c.limit ids (room_of c.answers c.work)) not_zero l.1 in
    record { ids = i.0; same = d.0; query = q.0; most = t.0; limit = l.0; room = r.0 }

-- 19 goes before all else
pub too_many : (head : Head) (c : Call) → ids_ok (handed c.wanted) ≡ false → front_number head c ≡ 19
unfolding front_by open_by
too_many head c h = rw h

pub low-limit : {head : Head} {c : Call} → Front head c → c.k ≤ c.limit
low-limit {c} f = leb-true c.k c.limit (both f.limit).0

-- ---- the answer slices

-- an element of a slice that a list was put into, and the list itself
pasted : {A B : Type 0} (d : List B) (f : A → B) (l : List A) (i : ℕ) (x : A) (z : B) → i < length l → get_or (paste d 0 (map f l)) i z ≡ f (get_or l i x)
pasted {A} {B} d f l i x z h =
    rw (paste-first d (map f l), get_or-append (map f l) (drop (length (map f l)) d) z i (rw (length-map l f) h)) (mapped l i h)
  where
    mapped : (l : List A) (i : ℕ) → i < length l → get_or (map f l) i z ≡ f (get_or l i x)
    mapped [] i h = absurd (omega arith)
    mapped (y ∷ l) zero h = refl
    mapped (y ∷ l) (suc i) h = mapped l i (omega arith)

pasted_front : {A B : Type 0} (d : List B) (f : A → B) (l : List A) → take (length l) (paste d 0 (map f l)) ≡ map f l
pasted_front d f l = rw (paste-first d (map f l)) (take_at (map f l) (drop (length (map f l)) d) (length l) (length-map l f))

module _ (head : Head) (rows : Rows) (c : Call) (h : Succeeds (searched head rows c)) where
  abbrev late : Refusal
  late = late_refusal rows c (candidate_rows rows c)

  pub done_front : Front head c
  unfolding searched outcome_by
  done_front = front head c (none-refused (front_number head c) late h).0

  pub report-is : (searched head rows c).report ≡ report_of rows c
  unfolding searched outcome_by
  report-is = is_done (refused_or (front_number head c) late) (report_of rows c) _ h

  pub answers_are : (searched head rows c).answers ≡ filled (list_of rows c) c.answers
  unfolding searched outcome_by
  answers_are = is_done (refused_or (front_number head c) late) (filled (list_of rows c) c.answers) c.answers h

  pub count-is : (searched head rows c).report.count ≡ length (listed_rows rows c)
  unfolding report_of
  count-is = ap (λ r. r.count) report-is

  -- place i is that of row i of the list
  pub shown-is : (i : ℕ) → i < length (listed_rows rows c) → shown (searched head rows c) i ≡ place_of c (get_or (listed_rows rows c) i 0)
  unfolding filled list_of
  shown-is i l =
      let ps = list_of rows c in
      let n : i < length ps = rw (length-map (listed_rows rows c) (place_of c)) l in
      let e : get_or ps i (place_of c 0) ≡ place_of c (get_or (listed_rows rows c) i 0) = get_or-map (place_of c) (listed_rows rows c) i 0 in
      let a = c.answers in
      let z = place_of c 0 in
      rw (
        answers_are,
        pasted a.ids (λ p. p.id) ps i z 0 n,
        pasted a.distances (λ p. p.distance) ps i z plus_zero n,
        pasted a.rows (λ p. p.row) ps i z 0 n,
        pasted a.starts (λ p. p.start) ps i z 0 n,
        pasted a.lengths (λ p. p.length) ps i z 0 n,
      ) e

  -- and the rows shown are the list's
  pub rows-shown : shown_rows (searched head rows c) ≡ listed_rows rows c
  unfolding filled list_of place_of
  rows-shown =
      let ps = list_of rows c in
      let n : length (listed_rows rows c) ≡ length ps = sym (length-map (listed_rows rows c) (place_of c)) in
      rw (count-is, answers_are, n, pasted_front c.answers.rows (λ p. p.row) ps) (map-map (λ (p : Place). p.row) (place_of c) (listed_rows rows c) ∙ map-id (listed_rows rows c))
