-- 11 and 20 are never shown: no other test has these numbers, and the slices are long enough for each library of whole files.
use mathlib.Core.Path.{◌≡◌, refl}
use mathlib.Core.Bool.{Bool, true, false, cond}
use mathlib.Core.List.{List}
use Prim.Native.Nat.{ℕ, ◌+◌, ◌≤◌}
use lib.Dec.{eqb, leb}
use lib.Ieee.{Float, nan, inf, fin}
use lib.Ieee.Scale.{finite}
use Rattle.std.specs.Prelude.{Ok}
use lib.ListN.{length, get_or}
use borrow.Author.Tests.{eqb-true, le-leb}
use Rattle.le.proofs.Chain.{by}
use Rattle.crc32.specs.Crc.{ends_in_crc}
use Rattle.rank.specs.Sort.{sort}
use Rattle.config.specs.Refusal.{Refusal, none, refused, then_refusal}
use Rattle.quantization.specs.View.{valid_row}
use Rattle.quantization.specs.Encoder.{base_levels}
use Rattle.row.specs.Distance.{approximate}
use Rattle.row.specs.Answer.{measured, answer as row_answer_of, row_answer, refusal_of as row_refusal_of}
use Rattle.format.specs.Order.{or_else, first_bad, first_refusal}
use Rattle.format.specs.Fields.{length_of_model, dimensions_of, segments_of, rows_of, metric_at, stored_crc}
use Rattle.format.specs.Head.{opens_ok, kind_ok, identity_ok, counts_ok, head_number}
use Rattle.format.specs.Same.{is_same_head}
use Rattle.format.specs.declared.Head.{Head}
use Rattle.format.proofs.Heads.{both}
use Rattle.entries.specs.Plan.{rows_ok, crc_ok, plan_number, bad_entry}
use Rattle.manifest.specs.Tiling.{tiled, in_segment}
use Rattle.manifest.specs.Check.{manifest_number, checked_by}
use Rattle.segment.specs.Record.{start_of, record_ok}
use Rattle.segment.specs.Check.{bad_record, segment_crc_ok, segment_records_refusal as segment_rows, segment_refusal, in_order, segments_refusal, library_refusal}
use Rattle.cache_format.specs.Cache.{identity, cache_version, row_length}
use Rattle.cache_format.specs.Sizing.{default_options, place_ok, options_ok, codes_ok, size_ok, bounds_number, limits_number, sizing_number}
use Rattle.cache_format.specs.Open.{cache_head_ok, same_identity, cache_head_number}
use Rattle.cache_format.specs.declared.Options.{Options}
use Rattle.quantized_cache.specs.Size.{size_of, sizing_of, size_number}
use Rattle.quantized_cache.specs.Open.{bad_row, content_refusal, open_number, open_refusal, opened_by}
use Rattle.search_spec.specs.Lent.{Rows, Call}
use Rattle.search_spec.specs.Lists.{is_eligible, encoded, original_at, candidate_rows}
use Rattle.search_spec.specs.Scan.{row_refusal, rows_refusal, record_refusal, records_refusal, scan_refusal}
use Rattle.search_spec.specs.Tests.{query_ok, most_ok, limit_ok, open_by, query_by, front_by, front_number}
use Rattle.search_spec.specs.Outcome.{late_refusal, outcome_by, searched}
use Rattle.search_spec.specs.Kept.{cached_rows}
use Rattle.listing_text.specs.Listing.{most_places}
use Rattle.listing_input.specs.Files.{Files, bytes_of, input_of}
use Rattle.listing_input.proofs.Short.{whole-short}
use Rattle.listing_input.specs.Parts.{max_file_bytes, query_of, k_of, limit_of, platform_of, root_part}
use Rattle.listing.specs.Output.{admitted, call_on, admission, found, list_refusal, NeverShort}
use Rattle.listing.proofs.Most.{rows-most}
use Rattle.listing.proofs.Lent.{full, full_ok, lent-room}

-- ---- numbers and refusals that are neither
record Other (n : ℕ) : Type 0 where
  no_11 : eqb n 11 ≡ false
  no_20 : eqb n 20 ≡ false

abbrev Shown : Refusal → Type 0
Shown r = Other r.number

none_other : Other 0
none_other = record { no_11 = refl; no_20 = refl }

-- a test and its number or its refusal, before the rest
unless-other : (t : Bool) (n rest : ℕ) → eqb n 11 ≡ false → eqb n 20 ≡ false → Other rest → Other (cond t rest n)
unless-other true n rest h k p = p
unless-other false n rest h k p = record { no_11 = h; no_20 = k }

unless-shown : (t : Bool) (rest : Refusal) (n place : ℕ) → eqb n 11 ≡ false → eqb n 20 ≡ false → Shown rest → Shown (cond t rest (refused n place))
unless-shown true rest n place h k p = p
unless-shown false rest n place h k p = record { no_11 = h; no_20 = k }

-- one before the other
or_other : (a b : ℕ) → Other a → Other b → Other (or_else a b)
or_other a b p q = by (eqb a 0) (λ e. rw e q) (λ e. rw e p)

then_shown : (a b : Refusal) → Shown a → Shown b → Shown (then_refusal a b)
then_shown a b p q = by (eqb a.number 0) (λ e. rw e q) (λ e. rw e p)

first-shown : (f : ℕ → Refusal) → ((i : ℕ) → Shown (f i)) → (n : ℕ) → Shown (first_refusal f n)
unfolding first_refusal
first-shown f h n = let bad = first_bad (λ i. eqb (f i).number 0) n in by (eqb bad n) (λ e. rw e none_other) (λ e. rw e (h bad))

-- ---- the manifest's tests
head-other : (m : List ℕ) → Other (head_number m)
unfolding head_number
head-other m = unless-other (opens_ok m) _ _ refl refl (unless-other (kind_ok m) _ _ refl refl (unless-other (leb (53 + length_of_model m) (length m)) _ _ refl refl (unless-other (identity_ok m) _ _ refl refl (unless-other (counts_ok m) _ _ refl refl none_other))))

plan_other : (m : List ℕ) (expected : ℕ) → length m ≤ max_file_bytes → Other (plan_number m expected most_places)
unfolding plan_number
plan_other m expected h =
    by (eqb (head_number m) 0)
    (λ e. rw (e, le-leb (rows_of m) most_places (rows-most m (eqb-true (head_number m) 0 e) h)) (unless-other (rows_ok m) _ _ refl refl (unless-other (crc_ok m expected) _ _ refl refl none_other)))
    (λ e. rw e (head-other m))

manifest-other : (m : List ℕ) (expected : ℕ) → length m ≤ max_file_bytes → Other (manifest_number m expected most_places)
unfolding manifest_number
manifest-other m expected h = or_other (plan_number m expected most_places) (cond (tiled m) 0 4) (plan_other m expected h) (unless-other (tiled m) _ _ refl refl none_other)

-- ---- the segments' tests
segment-shown : (m s : List ℕ) (n : ℕ) → Shown (segment_refusal m s n)
unfolding segment_rows
segment-shown m s n =
    let rows = in_segment m n in
    unless-shown (eqb (bad_record m s rows) (length rows)) _ _ _ refl refl (unless-shown (segment_crc_ok m s n) none 6 n refl refl none_other)

library_shown : (m : List ℕ) (expected : ℕ) (s : List ℕ) → length m ≤ max_file_bytes → Shown (library_refusal m expected most_places s)
unfolding library_refusal segments_refusal
library_shown m expected s h =
    then_shown (refused (manifest_number m expected most_places) 0) (segments_refusal m s) (manifest-other m expected h)
    (unless-shown (eqb (length s) (start_of m (segments_of m))) (in_order m s) 5 0 refl refl (first-shown (segment_refusal m s) (segment-shown m s) (segments_of m)))

-- ---- the opening's
sizing-other : (m platform root : List ℕ) (o : Options) → Other (sizing_of m platform root o)
unfolding sizing_of sizing_number bounds_number limits_number
sizing-other m platform root o =
    let size = size_of m platform root in
    let row = row_length (dimensions_of m) in
    or_other (bounds_number (length platform) (length root) o.max_cache_bytes o.buffer_bytes row) (limits_number (rows_of m) (dimensions_of m) size o.max_cache_bytes)
    (unless-other (place_ok (length platform) (length root)) _ _ refl refl (unless-other (options_ok o.max_cache_bytes o.buffer_bytes row) _ _ refl refl none_other))
    (unless-other (codes_ok (rows_of m) (dimensions_of m)) _ _ refl refl (unless-other (size_ok size o.max_cache_bytes) _ _ refl refl none_other))

open_shown : (m : List ℕ) (expected : ℕ) (cache platform root : List ℕ) (o : Options) → length m ≤ max_file_bytes
    → Shown (open_refusal m expected most_places cache platform root o)
unfolding open_refusal open_number size_number cache_head_number content_refusal
open_shown m expected cache platform root o h =
    let content = content_refusal base_levels (metric_at m) (rows_of m) (dimensions_of m) cache in
    let bad = bad_row base_levels (metric_at m) (rows_of m) (dimensions_of m) cache in
    let size = size_of m platform root in
    let i = identity platform root m in
    then_shown (refused (open_number m expected most_places cache platform root o) 0) content
    (or_other (size_number m expected most_places platform root o) (cache_head_number cache_version size i cache)
    (or_other (manifest_number m expected most_places) (sizing_of m platform root o) (manifest-other m expected h) (sizing-other m platform root o))
    (unless-other (cache_head_ok cache_version size cache) _ _ refl refl (unless-other (same_identity i cache) _ _ refl refl none_other)))
    (unless-shown (eqb bad (rows_of m)) _ 14 bad refl refl (unless-shown (ends_in_crc cache) none 15 0 refl refl none_other))

-- ---- the search's
head-same : (m : List ℕ) (head : Head) → is_same_head m head ≡ true → head_number m ≡ 0
unfolding is_same_head
head-same m head e = eqb-true (head_number m) 0 (both e).0

row-shown : (valid eligible : Bool) (place : ℕ) (x : Float) → Shown (row_refusal_of (row_answer_of valid eligible place x))
unfolding row_answer_of measured
row-shown false eligible place x = record { no_11 = refl; no_20 = refl }
row-shown true false place x = none_other
row-shown true true place nan = record { no_11 = refl; no_20 = refl }
row-shown true true place (inf s) = record { no_11 = refl; no_20 = refl }
row-shown true true place (fin s m e) = none_other

record_shown : (m s : List ℕ) (query : List Float) (r : ℕ) → Shown (record_refusal m s query r)
unfolding record_refusal
record_shown m s query r = unless-shown (record_ok m s r) _ 23 r refl refl (unless-shown (finite (original_at m s query r)) none 24 r refl refl none_other)

scan_shown : (rows : Rows) (c : Call) → Shown (scan_refusal rows c)
unfolding scan_refusal rows_refusal row_refusal row_answer
scan_shown rows c =
    let m = c.manifest in
    let e = rows.encoding in
    let ok = is_eligible c.wanted c.allowed m in
    let q = encoded e c.query in
    unless-shown rows.length_ok _ 21 0 refl refl
    (first-shown (row_refusal e.levels m ok rows.at q) (λ r. row-shown (valid_row e.levels (metric_at m) (rows.at r)) (ok r) r (approximate (metric_at m) (rows.at r) q)) (rows_of m))

late-shown : (rows : Rows) (c : Call) (looked : List ℕ) → Shown (late_refusal rows c looked)
unfolding late_refusal records_refusal
late-shown rows c looked =
    let m = c.manifest in
    let rs = sort leb looked in
    let records = records_refusal m c.segments c.query looked in
    let look = first-shown (λ i. record_refusal m c.segments c.query (get_or rs i 0)) (λ i. record_shown m c.segments c.query (get_or rs i 0)) (length rs) in
    unless-shown (eqb (bad_entry m) (rows_of m)) _ 21 (bad_entry m) refl refl
    (by (eqb c.k 0) (λ e. rw e none_other) (λ e. rw e (then_shown (scan_refusal rows c) records (scan_shown rows c) look)))

front-other : (head : Head) (m : List ℕ) (query : List Float) (k limit : ℕ) → length m ≤ max_file_bytes → Other (front_by head m 0 query k limit full)
unfolding front_by open_by query_by
front-other head m query k limit h =
    by (is_same_head m head)
    (λ e. rw (e, full_ok (rows_of m) k limit (rows-most m (head-same m head e) h))
    (unless-other (query_ok m query) _ _ refl refl (unless-other (most_ok k) _ _ refl refl (unless-other (limit_ok k limit) _ _ refl refl none_other))))
    (λ e. rw e (record { no_11 = refl; no_20 = refl }))

-- ---- of files
admission-shown : (f : Files) → length (bytes_of f.manifest) ≤ max_file_bytes → Shown (admission f).refusal
unfolding admission admitted opened_by checked_by
admission-shown f h =
    let m = bytes_of f.manifest in
    let s = bytes_of f.segments in
    let crc = stored_crc m in
    let place = bytes_of f.place in
    let opening = open_refusal m crc most_places (bytes_of f.cache) (platform_of place) (root_part place) default_options in
    then_shown (refused (manifest_number m crc most_places) 0) (then_refusal (library_refusal m crc most_places s) opening) (manifest-other m crc h)
    (then_shown (library_refusal m crc most_places s) opening (library_shown m crc s h) (open_shown m crc (bytes_of f.cache) (platform_of place) (root_part place) default_options h))

found-shown : (f : Files) → length (bytes_of f.manifest) ≤ max_file_bytes → Shown (found f).refusal
unfolding found call_on searched outcome_by
found-shown f h =
    let m = bytes_of f.manifest in
    let query = query_of (bytes_of f.query) in
    let call = bytes_of f.call in
    let c = call_on m (bytes_of f.segments) (bytes_of f.query) call in
    let state = (admission f).state in
    let rows = cached_rows m state (bytes_of f.cache) in
    then_shown (refused (front_number state.head c) 0) (late_refusal rows c (candidate_rows rows c))
    (rw lent-room (front-other state.head m query (k_of call) (limit_of call) h)) (late-shown rows c (candidate_rows rows c))

pub never_short : (f : Files) → NeverShort f
unfolding list_refusal
never_short f =
    let shown : input_of f ≡ Ok tt → Shown (list_refusal f) =
    λ e. let l = (whole-short f e).manifest in then_shown (admission f).refusal (found f).refusal (admission-shown f l) (found-shown f l) in
    record { no_11 = λ e. (shown e).no_11; no_20 = λ e. (shown e).no_20 }
