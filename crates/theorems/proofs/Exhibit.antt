-- A library that is accepted, with the CRC-32s of its bytes; its prepared cache, opened, and its built slices; and calls that share all but their
-- limits.
use mathlib.Core.Path.{◌≡◌, refl, sym, ap, ◌∙◌}
use mathlib.Core.Bool.{Bool, true, false}
use mathlib.Core.Logic.{inl, inr}
use mathlib.Core.List.{List, [], ◌∷◌, ◌++◌}
use Prim.Native.Nat.{ℕ, ◌≤◌}
use native.Mathlib.Omega.{arith}
use lib.Dec.{ltb}
use lib.IntN.{ℤ, pos}
use lib.ListN.{take, replicate}
use lib.Ieee.{fin, fits, of_bits, of_int, add, sub, mul, div, neg, lt, le, eq, is_nan}
use borrow.Author.Tests.{ltb-true}
use Rattle.le.specs.Le.{le as number, bytes}
use Rattle.utf8.specs.Grammar.{span}
use Rattle.utf8.specs.Utf8.{valid}
use Rattle.crc32.specs.Crc.{step, steps, update, crc32, ends_in_crc}
use Rattle.float.specs.Values.{plus_zero, one}
use Rattle.float.specs.Hold.{max_zero}
use Rattle.float.specs.Order.{total_below}
use Rattle.rank.specs.Sort.{insert, sort, least}
use Rattle.rank.specs.Rows.{passing}
use Rattle.rank.specs.Order.{by_distance}
use Rattle.rank.specs.Limit.{by_key, exact}
use Rattle.config.specs.Metric.{metric_of}
use Rattle.config.specs.Space.{valid_config, valid_space}
use Rattle.config.specs.Vector.{all, valid_vector, patterns_at}
use Rattle.config.specs.Refusal.{Refusal}
use Rattle.codes.specs.Codes.{dot, squares}
use Rattle.quantization.specs.Encoder.{largest_from, scale_by, not_above, code_of, encode, midpoints_of, base_levels, midpoints}
use Rattle.math.specs.Sums.{fold2}
use Rattle.math.specs.Distance.{finished, original}
use Rattle.row.specs.Distance.{squared_l2, distance_of, approximate}
use Rattle.format.specs.Order.{first_from, first_refusal}
use Rattle.format.specs.Fields.{magic, generation_of, sequence_of, dimensions_of, m_of, ef_of, seed_of, metric_byte, metric_at, length_of_model, model_of, segments_of, rows_of, table_at, entries_at, length_of, crc_of, id_at, segment_at, offset_at, metadata_at, record_length, stored_crc}
use Rattle.format.specs.Head.{opens_ok, kind_ok, identity_ok, counts_ok, head_number, lengths_ok}
use Rattle.format.proofs.Heads.{both}
use Rattle.entries.specs.Plan.{rises, entry_ok, rows_ok, crc_ok, plan_number}
use Rattle.cache_format.specs.Sizing.{default_options, bounds_number, limits_number, sizing_number}
use Rattle.manifest.specs.Tiling.{position, physical, in_segment, follow, covers, tiled}
use Rattle.manifest.specs.Check.{manifest_number}
use Rattle.segment.specs.Record.{start_of, record_at, parts_ok, record_ok}
use Rattle.segment.specs.Check.{segment_crc_ok, segment_records_refusal, segments_refusal, library_refusal}
use Rattle.quantized_cache.specs.Size.{size_of, sizing_of}
use Rattle.quantized_cache.specs.Open.{state_of}
use Rattle.quantized_cache.specs.Open.{Opened}
use Rattle.quantized_cache.specs.declared.CacheState.{CacheState}
use Rattle.prepare.specs.Prepare.{prepare_refusal, cache_after}
use Rattle.prepare.proofs.Accepted.{accepted-prepared}
use Rattle.resident.specs.Build.{resident_room_number, build_refusal, built_by, codes_after, scales_after, norms_after}
use Rattle.resident.proofs.Theorems.{accepted-built}
use Rattle.encoded_rows.specs.Rows.{row_of}
use Rattle.search_spec.specs.Lent.{Rows, Call, base, every, wants, call_of, answers_of, work_of}
use Rattle.search_spec.specs.Lists.{is_eligible, eligible, eligible_rows, encoded, approximate_at, original_at, by_original, candidate_rows, listed_rows}
use Rattle.search_spec.specs.Outcome.{Succeeds, shown_rows}
use Rattle.search_spec.specs.Kept.{cached_rows, cached}
use Rattle.search_spec.proofs.Passed.{rows-shown}
use Rattle.theorems.specs.Words.{TrueNearest, Bytes, Accepted, LeftByPreparing, Opens, LeftByBuilding, Answerable}
use Rattle.theorems.specs.Demand.{Exhibit}
use Rattle.theorems.proofs.Own.{cached_own}
use Rattle.theorems.proofs.Library.{prepared-opens}
use Rattle.theorems.proofs.Improves.{near, limits, nearest-least, rows_pass}
use Rattle.theorems.proofs.Alike.{listed_agree, alike}
use Rattle.theorems.proofs.Finds.{finds_cached}

-- the manifest's own, which is the one expected
abbrev crc : ℕ
crc = 0xacf5f4e1

-- document 01's worked example: generation 3, sequence 7, L2, ids 1 (127, 0) and 2 (127, 0.25); one segment, a model of one byte
abbrev manifest : List ℕ
manifest =
    magic ++ bytes 8 3 ++ bytes 8 7 ++ bytes 4 2 ++ bytes 4 16 ++ bytes 4 200 ++ bytes 8 0 ++ 0 ∷ bytes 4 1 ++ 109 ∷ bytes 4 1 ++ bytes 8 2
    ++ bytes 8 44 ++ bytes 4 0x890b269e
    ++ bytes 8 1 ++ bytes 4 0 ++ bytes 4 0 ++ bytes 4 0
    ++ bytes 8 2 ++ bytes 4 0 ++ bytes 4 20 ++ bytes 4 0
    ++ bytes 4 crc

abbrev segments : List ℕ
segments =
    bytes 8 1 ++ bytes 4 0 ++ bytes 4 0x42fe0000 ++ bytes 4 0
    ++ bytes 8 2 ++ bytes 4 0 ++ bytes 4 0x42fe0000 ++ bytes 4 0x3e800000
    ++ bytes 4 0x890b269e

passes : (library_refusal manifest crc 2 segments).number ≡ 0
unfolding span number bytes valid metric_of valid_config valid_space valid_vector patterns_at first_from generation_of sequence_of dimensions_of m_of ef_of seed_of metric_byte metric_at length_of_model model_of segments_of rows_of table_at entries_at length_of id_at segment_at offset_at metadata_at record_length opens_ok kind_ok identity_ok counts_ok head_number lengths_ok rises entry_ok start_of record_at parts_ok record_ok of_bits eq library_refusal manifest_number plan_number rows_ok crc_ok ends_in_crc crc32 update steps step tiled covers follow in_segment physical position segments_refusal first_refusal segment_records_refusal segment_crc_ok stored_crc crc_of sort insert passing by_key
passes = refl

accepted : Accepted manifest segments
accepted = record { expected = crc; scratch = 2; passes = passes }

-- ---- its cache and its slices, of whatever was lent

bytes-held : (s : List ℕ) → all (λ x. ltb x 256) s ≡ true → Bytes s
bytes-held [] h b i = absurd i
bytes-held (x ∷ s) h b (inl e) = rw e (ltb-true x 256 (both {a = ltb x 256} h).0)
bytes-held (x ∷ s) h b (inr i) = bytes-held s (both {a = ltb x 256} h).1 b i

manifest-bytes : Bytes manifest
unfolding bytes
manifest-bytes = bytes-held manifest refl

two-rows : rows_of manifest ≤ 2
unfolding number bytes rows_of length_of_model
two-rows = omega arith

abbrev platform : List ℕ
platform = 120 ∷ []

abbrev root : List ℕ
root = 47 ∷ []

abbrev lent : List ℕ
lent = replicate 400 0

abbrev preparing : Refusal
preparing = prepare_refusal manifest crc 2 segments platform root default_options 400

prepares : preparing.number ≡ 0
unfolding span number bytes rows_of dimensions_of length_of_model sizing_of sizing_number bounds_number limits_number
prepares = ap (λ (r : Refusal). r.number) (accepted-prepared manifest crc 2 segments passes 2 two-rows platform root default_options 400)

abbrev cache : List ℕ
cache = take (size_of manifest platform root) (cache_after manifest segments platform root preparing lent)

prepared : LeftByPreparing manifest segments cache
prepared = record {
  expected = crc;
  scratch = 2;
  platform = platform;
  root = root;
  options = default_options;
  lent = lent;
  refusal = preparing;
  returned = refl;
  passes = prepares;
  left = refl;
}

platform-bytes : Bytes prepared.platform
unfolding prepared
platform-bytes = bytes-held platform refl

root-bytes : Bytes prepared.root
unfolding prepared
root-bytes = bytes-held root refl

opens : Opens manifest cache (state_of manifest cache)
opens =
    let e = prepared-opens manifest segments cache prepared manifest-bytes platform-bytes root-bytes 2 two-rows in
    record {
      expected = prepared.expected;
      scratch = 2;
      platform = prepared.platform;
      root = prepared.root;
      options = prepared.options;
      passes = ap (λ (x : Opened). x.refusal.number) e;
      returned = sym (ap (λ (x : Opened). x.state) e);
    }

abbrev building : Refusal
building = build_refusal manifest crc 2 segments 4 2 2

builds : building.number ≡ 0
unfolding number bytes rows_of dimensions_of length_of_model resident_room_number
builds = ap (λ (r : Refusal). r.number) (accepted-built manifest crc 2 segments passes 2 two-rows 4 2 2)

abbrev integers : ℕ → List ℤ
integers n = replicate n (pos 0)

built : LeftByBuilding manifest segments (built_by manifest building 4 2 2).state (codes_after base_levels midpoints manifest segments building (integers 4))
    (scales_after base_levels midpoints manifest segments building (one ∷ one ∷ [])) (norms_after base_levels midpoints manifest segments building (integers 2))
built = record {
  expected = crc;
  scratch = 2;
  lent_codes = integers 4;
  lent_scales = one ∷ one ∷ [];
  lent_norms = integers 2;
  refusal = building;
  returned = refl;
  passes = builds;
  codes-left = refl;
  scales-left = refl;
  norms-left = refl;
  state-returned = refl;
}

-- ---- calls with the query (127, 0), k 1
abbrev call : ℕ → Call
call limit =
    call_of manifest segments every (fin false 127 (pos 0) ∷ plus_zero ∷ []) 1 limit (answers_of (9 ∷ []) (one ∷ []) (9 ∷ []) (9 ∷ []) (9 ∷ []))
    (work_of (9 ∷ 9 ∷ []) (9 ∷ 9 ∷ []) [])

answerable : (limit : ℕ) → 1 ≤ limit → limit ≤ 65536 → Answerable (call limit)
unfolding number bytes metric_of rows_of dimensions_of length_of_model metric_byte metric_at valid_vector fits
answerable limit low high = record {
  query = refl;
  singles = refl;
  most = omega arith;
  low = low;
  high = high;
  ids = omega arith;
  answer-ids = omega arith;
  answer-distances = omega arith;
  answer-rows = omega arith;
  answer-starts = omega arith;
  answer-lengths = omega arith;
  candidate_keys = omega arith;
  candidate_row_slice = omega arith;
  id_slice = omega arith;
}

-- ---- the list with limit 1

-- the encoder's rows
abbrev rows : Rows
rows = record { encoding = base; length_ok = true; at = row_of base_levels midpoints manifest segments }

-- both have one approximate distance, so that row 0 is the candidate
listed_0 : listed_rows rows (call 1) ≡ 0 ∷ []
unfolding number bytes lt le eq add sub mul neg is_nan of_bits of_int max_zero total_below insert sort least passing by_distance metric_of patterns_at dot squares largest_from scale_by not_above code_of encode midpoints_of fold2 finished original squared_l2 distance_of approximate dimensions_of metric_byte metric_at length_of_model segments_of rows_of table_at entries_at length_of id_at segment_at offset_at start_of record_at wants is_eligible eligible eligible_rows encoded approximate_at original_at candidate_rows listed_rows div
listed_0 = refl

-- which is nearest too
nearest_0 : (order : ℕ → ℕ → Bool) → exact order (by_original manifest segments (call 1).query) (eligible_rows (call 1)) 1 ≡ 0 ∷ []
unfolding number bytes lt le eq add sub mul neg is_nan of_bits total_below insert sort least passing by_distance metric_of fold2 finished original dimensions_of metric_byte metric_at length_of_model segments_of rows_of table_at entries_at length_of id_at segment_at offset_at start_of record_at wants is_eligible eligible eligible_rows original_at exact patterns_at
nearest_0 order = refl

abbrev state : CacheState
state = state_of manifest cache

succeeds : Succeeds (cached state cache (call 1))
succeeds = ap (λ (r : Refusal). r.number) (finds_cached (call 1) state cache accepted (answerable 1 (omega arith) (omega arith)) prepared opens).0

shown_0 : shown_rows (cached state cache (call 1)) ≡ 0 ∷ []
shown_0 =
    let o = cached_own manifest segments cache state prepared opens in
    rows-shown state.head (cached_rows manifest state cache) (call 1) succeeds
    ∙ listed_agree state.head (cached_rows manifest state cache) rows (call 1) (record { encoding = o.encoding; length_ok = o.length_ok; at = o.at })
    ∙ listed_0

nearest_are : TrueNearest (call 1) (0 ∷ [])
nearest_are =
    let v = cached_rows manifest state cache in
    rw nearest_0 at (nearest-least (call 1) _ ((limits (near v (call 1)) (call 1) (rows_pass state.head v (call 1) succeeds)).exact_are 1))

pub exhibit : Exhibit
unfolding number bytes rows_of length_of_model eligible_rows eligible passing is_eligible wants
exhibit = record {
  smaller = call 1;
  larger = call 2;
  shares = record { manifest = refl; segments = refl; query = refl; k = refl; strokes = refl };
  few = omega arith;
  enough = omega arith;
  accepted = accepted;
  answers-smaller = answerable 1 (omega arith) (omega arith);
  answers-larger = answerable 2 (omega arith) (omega arith);
  cache = cache;
  state = state;
  prepared = prepared;
  manifest-bytes = manifest-bytes;
  platform-bytes = platform-bytes;
  root-bytes = root-bytes;
  opens = opens;
  codes = codes_after base_levels midpoints manifest segments building (integers 4);
  scales = scales_after base_levels midpoints manifest segments building (one ∷ one ∷ []);
  norms = norms_after base_levels midpoints manifest segments building (integers 2);
  built = (built_by manifest building 4 2 2).state;
  left = built;
  some = omega arith;
  nearest = 0 ∷ [];
  nearest_are = nearest_are;
  stroke = 0;
  stroke-near = inl refl;
  stroke-cached = rw shown_0 (inl refl);
  stroke-resident = let a = (alike (call 1) state cache _ _ _ _ prepared opens built).0 in rw (← a.report, ← a.rows, shown_0) (inl refl);
}
