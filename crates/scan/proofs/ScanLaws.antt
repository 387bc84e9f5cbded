-- A scan over rising rows: what one row adds, whatever the rows are seen by.
use mathlib.Core.Path.{◌≡◌, refl, sym, ap, ◌∙◌, subst}
use mathlib.Core.Logic.{◌⊎◌, inl, inr, ⊎_elim}
use mathlib.Core.Bool.{Bool, true, false, not, false≢true}
use mathlib.Core.List.{List, map}
use Prim.Native.Nat.{ℕ, zero, suc, ◌+◌, ◌-◌, ◌^◌, ◌≤◌, ◌<◌}
use native.Mathlib.Omega.{arith}
use borrow.Author.Tests.{eq-eqb}
use lib.Dec.{T, leb}
use lib.Ieee.{Float, nan, inf, fin, binary64, to_bits, is_nan}
use lib.Ieee.Scale.{finite}
use lib.ListN.{length, get_or, length-map}
use Rattle.std.specs.Prelude.{Ok, Err}
use Rattle.le.proofs.Chain.{lt_or_le}
use Rattle.float.specs.Order.{key_of}
use Rattle.float.proofs.BitLaws.{finite_number}
use Rattle.float.proofs.Keys.{keyed_lt}
use Rattle.rank.specs.Sort.{sort, least}
use Rattle.rank.specs.Heap.{HeapFrom}
use Rattle.rank.specs.Limit.{by_key}
use Rattle.rank.specs.Rows.{passing}
use Rattle.rank.specs.Pairs.{pack, pairs}
use Rattle.rank.proofs.Rows.{passing-none, passing_pass, count-more, count_most}
use Rattle.rank.proofs.Pairs.{packed, pack-key, length_pairs, take_pairs, map_pairs, least-pack}
use Rattle.rank.proofs.Bounded.{Holds, nothing}
use Rattle.rank.proofs.Two.{passed2}
use Rattle.rank.proofs.Scan.{keep_row, skip_row}
use Rattle.rank.proofs.Order.{Measured, least-order}
use Rattle.config.specs.Refusal.{Refusal, none}
use Rattle.config.specs.Told.{told_by}
use Rattle.config.specs.declared.Refused.{Refused as Why}
use Rattle.config.specs.declared.Metric.{Metric}
use Rattle.config.proofs.Refusals.{is_done, is-other}
use Rattle.quantization.specs.View.{View, valid_row}
use Rattle.row.specs.Distance.{approximate}
use Rattle.row.specs.Answer.{measured, answer, row_answer, refusal_of}
use Rattle.row.specs.declared.RowAnswer.{RowAnswer}
use Rattle.row.specs.declared.RowAnswer.TheVariants.{Distance, PassedOver, Refused}
use Rattle.row.proofs.Yields.{Yields, yields, passes_over, refuses}
use Rattle.row.proofs.Finite.{distance-fits}
use Rattle.format.specs.Fields.{rows_of, metric_at, id_at}
use Rattle.format.proofs.First.{Reached, reached_start, reached_turn}
use Rattle.format.proofs.Refusals.{passes, each_none, refusal-stop, refusal-end}
use Rattle.entries.specs.Plan.{rows_ok}
use Rattle.entries.proofs.Entries.{ids_rise}
use Rattle.search_spec.specs.Lent.{Wanted, every, only, everyone, wants}
use Rattle.search_spec.specs.Lists.{is_eligible, approximate_at}
use Rattle.eligible.specs.Walk.{CursorAt}
use Rattle.eligible.proofs.Walk.{count_next}
use mir.Val.{bool_byte}
use Rattle.search_spec.specs.Scan.{row_refusal, rows_refusal}
use Rattle.scan.specs.Bar.{Bar, Keeps}
use Rattle.scan.specs.Far.{Over, Entered}
use Rattle.scan.specs.Ahead.{NextIs}
use Rattle.scan.specs.Scan.{near_key, nearest, reach, scanned, ScanIs}
use Rattle.scan.specs.declared.Held.{Held}
use Rattle.scan.specs.declared.Next.{Next}

-- a key over the bar is turned away, and that is what `keep_best` would do
pub turned_away : (ks rs : List ℕ) (same : length ks ≡ length rs) (n k r top : ℕ) → n ≤ length ks
    → (n ≡ length ks → HeapFrom 0 (pairs ks rs)) → Bar ks n top → k < 2 ^ 64 → get_or rs 0 0 < 2 ^ 64 → top < k
    → Keeps ks rs n (pack k r) ks rs (record { count = n; top = top })
turned_away ks rs same n k r top low H B fit word over =
    let full : length ks ≤ n = by_room (omega arith) in
    let e : n ≡ length ks = omega arith in
    let at : pack (get_or ks 0 0) (get_or rs 0 0) < pack k r = pack-key (get_or ks 0 0) (get_or rs 0 0) k r (omega (arith, over, B.full full)) word in
    record { kept = rw (sym e) at (passed2 ks rs same n k r low full (H e) (λ z. omega arith)); top = B }
  where
    by_room : (18446744073709551615 < k → ⊥) → length ks ≤ n
    by_room past = ⊎_elim (λ l. absurd (past (omega (arith, over, B.room l)))) (λ g. g) (lt_or_le n (length ks))

-- an eligible row that is not refused has a finite distance
fine : (valid eligible : Bool) (place : ℕ) (x : Float) → (refusal_of (answer valid eligible place x)).number ≡ 0 → eligible ≡ true → T (finite x)
unfolding answer measured
fine false eligible place x h w = absurd (omega arith)
fine true false place x h w = absurd (false≢true w)
fine true true place nan h w = absurd (omega arith)
fine true true place (inf s) h w = absurd (omega arith)
fine true true place (fin s m e) h w = tt

module _ (levels : ℕ) (m : List ℕ) (eligible : ℕ → Bool) (view : ℕ → View) (query : View) where
  abbrev refusals : ℕ → Refusal
  refusals = row_refusal levels m eligible view query

  -- what row r yields
  unfoldable pub row_yields : ℕ → RowAnswer
  row_yields r = row_answer levels (metric_at m) (eligible r) r (view r) query

  measured-row : (r : ℕ) → (refusals r).number ≡ 0 → eligible r ≡ true → Measured (approximate_at m view query) (id_at m) r
  unfolding row_refusal row_answer approximate_at
  measured-row r z w = record {
    fit = distance-fits (metric_at m) (view r) query;
    number = finite_number (approximate (metric_at m) (view r) query) (fine (valid_row levels (metric_at m) (view r)) (eligible r) r (approximate (metric_at m) (view r) query) z w);
  }

  -- by key and row, the least rows are the least by distance and id, where no row is refused and ids rise
  nearest-is : rows_ok m ≡ true → (rows_refusal levels m eligible view query).number ≡ 0 → (limit : ℕ)
      → least (by_key (near_key m view query)) limit (passing eligible (rows_of m)) ≡ nearest m view query eligible limit
  unfolding near_key rows_refusal
  nearest-is ok h limit =
      let within = passing_pass eligible (rows_of m) in
      least-order (approximate_at m view query) (id_at m) (passing eligible (rows_of m))
      (λ r i. let p = within r i in measured-row r (each_none refusals (rows_of m) h r p.0) p.1)
      (λ r s i j l. ids_rise m r s ok l (within s j).0) limit

  -- the scan has come to a row: none before it was refused, and n of them are kept, in slices as long as the limit
  pub record Scanning (limit row : ℕ) (ks rs : List ℕ) (n top : ℕ) : Type 0 where
    pub keys : length ks ≡ limit
    pub rows : length rs ≡ limit
    pub count : n ≤ limit
    pub bar : Bar ks n top
    pub word : get_or rs 0 0 < 2 ^ 64
    pub reached : Reached (passes refusals) (rows_of m) row
    pub holds : Holds (map (packed (near_key m view query)) (passing eligible row)) (pairs ks rs) n

  pub starts : (ks rs : List ℕ) {top : ℕ} → length ks ≡ length rs → Bar ks 0 top → get_or rs 0 0 < 2 ^ 64 → Scanning (length ks) 0 ks rs 0 top
  starts ks rs same B w = record {
    keys = refl;
    rows = sym same;
    count = omega arith;
    bar = B;
    word = w;
    reached = reached_start (passes refusals) (rows_of m);
    holds = rw (passing-none eligible) (nothing (pairs ks rs));
  }

module _ {levels : ℕ} {m : List ℕ} {eligible : ℕ → Bool} {view : ℕ → View} {query : View} {limit row : ℕ} {ks rs : List ℕ} {n top : ℕ}
    (S : Scanning levels m eligible view query limit row ks rs n top) where
  abbrev valid : Bool
  valid = valid_row levels (metric_at m) (view row)

  abbrev distance : Float
  distance = approximate (metric_at m) (view row) query

  same : length ks ≡ length rs
  same = S.keys ∙ sym S.rows

  -- the row's answer
  abbrev said : RowAnswer
  said = row_yields levels m eligible view query row

  module _ (low : row < rows_of m) where
    yielded : {x : Float} → said ≡ Distance x → Yields valid (eligible row) distance x
    unfolding row_yields row_answer
    yielded e = yields valid (eligible row) row distance (sym e)

    -- a row that is not refused lets the scan go on
    goes_on : (refusal_of said).number ≡ 0 → Reached (passes (refusals levels m eligible view query)) (rows_of m) (row + 1)
    unfolding row_yields row_refusal
    goes_on z = reached_turn low (eq-eqb (refusals levels m eligible view query row).number 0 z) S.reached

    -- what `keep` asks
    pub asked : {x : Float} → said ≡ Distance x
        → ((n ≤ length ks) × (length ks ≡ length rs) × Bar ks n top × T (not (is_nan x))) × (n ≡ length ks → HeapFrom 0 (pairs ks rs))
    asked {x} e = (
      (omega (arith, S.count, S.keys), same, S.bar, finite_number x (yielded e).fine),
      λ f. S.holds.heap (f ∙ sym (length_pairs ks rs same)),
    )

    pub keeps : {x : Float} → said ≡ Distance x → (b c : List ℕ) (h : Held) → Keeps ks rs n (pack (key_of (to_bits binary64 x)) row) b c h
        → length b ≡ length ks → length c ≡ length rs → get_or c 0 0 < 2 ^ 64 → Scanning levels m eligible view query limit (row + 1) b c h.count h.top
    unfolding near_key approximate_at
    keeps {x} e b c h K lb lc w =
        let y = yielded e in
        let k = keep_row eligible (near_key m view query) ks rs same row n S.holds y.wanted b c h.count (rw y.is at K.kept) lb lc in
        record {
          keys = lb ∙ S.keys;
          rows = lc ∙ S.rows;
          count = omega (arith, k.0, lb, S.keys);
          bar = K.top;
          word = w;
          reached = goes_on (ap (λ a. (refusal_of a).number) e);
          holds = k.1;
        }

    -- passed over, as not eligible or as too far
    pub skips : (said ≡ PassedOver) ⊎ Over top said → Scanning levels m eligible view query limit (row + 1) ks rs n top
    unfolding row_yields row_answer
    skips (inl e) = record {
      keys = S.keys;
      rows = S.rows;
      count = S.count;
      bar = S.bar;
      word = S.word;
      reached = goes_on (ap (λ a. (refusal_of a).number) e);
      holds = skip_row eligible (near_key m view query) ks rs same row n S.holds (passes_over valid (eligible row) row distance (sym e)).1;
    }
    skips (inr o) =
        let p = asked o.is in
        let fit = keyed_lt o.distance (rw (yielded o.is).is (distance-fits (metric_at m) (view row) query)) in
        keeps o.is ks rs (record { count = n; top = top }) (turned_away ks rs same n (key_of (to_bits binary64 o.distance)) row top p.0.0 p.1 S.bar fit S.word o.over) refl refl S.word

    pub stops : {f : Why} → said ≡ Refused f → (b c : List ℕ) → ScanIs levels m eligible view query limit (scanned (Err f)) b c
    unfolding row_yields row_answer row_refusal rows_refusal
    stops {f} e b c =
        let no = refuses valid (eligible row) row distance (sym e) in
        let here : told_by f ≡ refusals levels m eligible view query row = ap refusal_of (sym e) in
        let r : told_by f ≡ rows_refusal levels m eligible view query =
        here ∙ refusal-stop (refusals levels m eligible view query) (rows_of m) low (λ z. no (ap (λ (f : Refusal). f.number) here ∙ z)) S.reached in
        let some : (rows_refusal levels m eligible view query).number ≡ 0 → ⊥ = λ z. no (ap (λ (f : Refusal). f.number) r ∙ z) in
        record {
          refusal = r;
          count = sym (is-other (rows_refusal levels m eligible view query) _ 0 some);
          total = sym (is-other (rows_refusal levels m eligible view query) _ 0 some);
          kept = λ z. absurd (no z);
        }

  pub ends : {total : ℕ} → total ≡ length (passing eligible row) → row ≤ rows_of m → rows_of m ≤ row → rows_ok m ≡ true → rows_of m ≤ 2 ^ 64
      → ScanIs levels m eligible view query limit (scanned (Ok (record { count = n; eligible = total }))) ks rs
  unfolding rows_refusal
  ends t h g ok fit =
      let e : row ≡ rows_of m = omega arith in
      let r : none ≡ rows_refusal levels m eligible view query = refusal-end (refusals levels m eligible view query) (rows_of m) g h S.reached in
      let z = ap (λ (f : Refusal). f.number) (sym r) in
      let H = rw e at S.holds in
      let l = length_pairs ks rs same ∙ S.keys in
      let P = passing eligible (rows_of m) in
      let near : ℕ → ℕ = near_key m view query in
      record {
        refusal = r;
        count = omega (arith, H.count, length-map P (packed near), l) ∙ sym (is_done (rows_refusal levels m eligible view query) _ 0 z);
        total = (rw e at t) ∙ sym (is_done (rows_refusal levels m eligible view query) _ 0 z);
        kept = λ t. ap (sort leb) (take_pairs n ks rs) ∙ H.kept ∙ rw l (least-pack near P (λ r i. omega (arith, passing_pass eligible (rows_of m) r i)) limit)
            ∙ sym (map_pairs near (least (by_key near) limit P)) ∙ ap (λ c. pairs (map near c) c) (nearest-is levels m eligible view query ok z limit);
      }

-- ---- several rows at once

-- all of them turned away
pub skips_to : {levels : ℕ} {m : List ℕ} {eligible : ℕ → Bool} {view : ℕ → View} {query : View} {limit row : ℕ} {ks rs : List ℕ} {n top : ℕ}
    → Scanning levels m eligible view query limit row ks rs n top → (k : ℕ) → row + k ≤ rows_of m
    → ((i : ℕ) → row ≤ i → i < row + k → Over top (row_yields levels m eligible view query i)) → Scanning levels m eligible view query limit (row + k) ks rs n top
skips_to {levels} {m} {eligible} {view} {query} {limit} {row} {ks} {rs} {n} {top} S k h o = go k h o
  where
    At : ℕ → Type 0
    At r = Scanning levels m eligible view query limit r ks rs n top

    go : (k : ℕ) → row + k ≤ rows_of m → ((i : ℕ) → row ≤ i → i < row + k → Over top (row_yields levels m eligible view query i)) → At (row + k)
    go zero h o = subst At {x = row} {y = row + zero} (omega arith) S
    go (suc k) h o =
        let s : At (row + k) = go k (omega arith) (λ i l j. o i l (omega arith)) in
        subst At {x = row + k + 1} {y = row + suc k} (omega arith) (skips s (omega arith) (inr (o (row + k) (omega arith) (omega arith))))

count-to : (ok : ℕ → Bool) (row k : ℕ) {total : ℕ} → total ≡ length (passing ok row) → ((i : ℕ) → row ≤ i → i < row + k → ok i ≡ true) → total + k ≡ length (passing ok (row + k))
count-to ok row zero {total} t o = let e : row + zero ≡ row = omega arith in rw e (omega (arith, t))
count-to ok row (suc k) {total} t o =
    let e : row + suc k ≡ row + k + 1 = omega arith in
    let i = count-to ok row k t (λ i l j. o i l (omega arith)) in
    rw e (omega (arith, i, count-more ok (row + k) (o (row + k) (omega arith) (omega arith))))

-- what has been gone over with the row that is next: the rows before it are turned away, and of it something is said
pub record Went (levels : ℕ) (m : List ℕ) (eligible : ℕ → Bool) (view : ℕ → View) (query : View) (e : Bool) (row top : ℕ) (r : Next) : Type 0 where
  pub from : row ≤ r.row
  pub low : r.row < rows_of m
  pub over : (i : ℕ) → row ≤ i → i < r.row → Over top (row_yields levels m eligible view query i)
  pub said : Entered top (row_yields levels m eligible view query r.row) r.answer
  pub alike : (i : ℕ) → row ≤ i → i ≤ r.row → e ≡ eligible i
  pub wanted : row < r.row → e ≡ true

-- up to where the rows are eligible alike
reach_holds : (w : Wanted) (row rows : ℕ) → row < rows → (row < reach w row rows) × (reach w row rows ≤ rows)
reach_holds every row rows h = (h, omega arith)
reach_holds (only ids) row rows h = (omega arith, omega arith)

eligible-alike : (w : Wanted) (m : List ℕ) (row rows i : ℕ) {e : Bool} → e ≡ is_eligible w everyone m row → row ≤ i → i < reach w row rows → e ≡ is_eligible w everyone m i
unfolding is_eligible wants
eligible-alike every m row rows i e l h = e
eligible-alike (only ids) m row rows i e l h = let q : i ≡ row = omega arith in rw q e

pub went : (w : Wanted) {m : List ℕ} {view : ℕ → View} {levels : ℕ} {query : View} {metric : Metric} {row rows to top : ℕ} {e : Bool} {r : Next}
    → NextIs levels metric view query e row to top r → metric ≡ metric_at m → rows ≡ rows_of m → to ≡ reach w row rows → row < rows → e ≡ is_eligible w everyone m row
    → Went levels m (is_eligible w everyone m) view query e row top r
unfolding row_yields
went w {m} {row = row} {rows} {e = e} {r = r} N t p q low is =
    let h = reach_holds w row rows low in
    let A : (i : ℕ) → row ≤ i → i ≤ r.row → e ≡ is_eligible w everyone m i = λ i l j. eligible-alike w m row rows i is l (omega (arith, N.until, q)) in
    record {
      from = N.from;
      low = omega (arith, N.until, q, h.1, p);
      over = λ i l j. rw (t, A i l (omega arith)) at (N.over i l j);
      said = rw (t, A r.row N.from (omega arith)) at N.said;
      alike = A;
      wanted = N.wanted;
    }

module _ {levels : ℕ} {m : List ℕ} {eligible : ℕ → Bool} {view : ℕ → View} {query : View} {e : Bool} {row top : ℕ} {r : Next} (W : Went levels m eligible view query e row top r) where
  pub gone : {limit : ℕ} {ks rs : List ℕ} {n : ℕ} → Scanning levels m eligible view query limit row ks rs n top → Scanning levels m eligible view query limit r.row ks rs n top
  gone {limit} {ks} {rs} {n} S =
      let k = r.row - row in
      let q : row + k ≡ r.row = omega (arith, W.from) in
      subst (λ i. Scanning levels m eligible view query limit i ks rs n top) q
      (skips_to S k (omega (arith, W.from, W.low)) (λ i l h. W.over i l (omega (arith, W.from))))

  pub count_went : {total : ℕ} → total ≡ length (passing eligible row) → total + (r.row - row + bool_byte e) ≡ length (passing eligible (r.row + 1))
  count_went {total} t =
      let k = r.row - row in
      let q : row + k ≡ r.row = omega (arith, W.from) in
      let c : total + k ≡ length (passing eligible r.row) =
      rw q at (count-to eligible row k t (λ i l h. let j : i < r.row = omega (arith, W.from) in sym (W.alike i l (omega arith)) ∙ W.wanted (omega arith))) in
      let d = count_next eligible r.row c (W.alike r.row W.from (omega arith)) in
      omega (arith, d)

  pub low_went : {total : ℕ} → total ≡ length (passing eligible row) → total + (r.row - row + bool_byte e) ≤ rows_of m
  low_went t = omega (arith, count_went t, count_most eligible (r.row + 1), W.low)

  pub cursor_went : {s : List ℕ} {cursor : ℕ} → CursorAt m s cursor (row + 1) → CursorAt m s cursor (r.row + 1)
  cursor_went C = record { fits = C.fits; below = λ i j h k l. C.below i j h (omega (arith, W.from)) l }
