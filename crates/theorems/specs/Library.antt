-- A library, its cache and its resident rows. Demand 2: "A cache that is written opens under the same bounds and yields the encoder's own rows".
-- Beside it: what an accepted library is, that preparing and building refuse no record of it, and that the head test of a search is document 01's
-- sentence on 21 (readings R3, R4).
use Rattle.std.specs.Prelude.{◌≡◌, true, cond, ◌↔◌, List, ℕ, ◌+◌, ◌≤◌, ◌<◌, leb, ℤ, length, take, Float}
use Rattle.config.specs.Refusal.{Refusal, none, refused, refused_or}
use Rattle.quantization.specs.Encoder.{base_levels, midpoints}
use Rattle.format.specs.Fields.{dimensions_of, segments_of, rows_of, table_at, length_of, id_at, segment_at, offset_at, metadata_at, record_length}
use Rattle.format.specs.Head.{head_number, head_at, zero_head}
use Rattle.format.specs.Same.{is_same_head}
use Rattle.entries.specs.Plan.{rows_ok, crc_ok}
use Rattle.cache_format.specs.declared.Options.{Options}
use Rattle.manifest.specs.Tiling.{tiled}
use Rattle.manifest.specs.Check.{checked}
use Rattle.segment.specs.Record.{start_of, record_at, record_ok}
use Rattle.segment.specs.Check.{segment_crc_ok, library_refusal, checked_library}
use Rattle.quantized_cache.specs.Size.{sizing_of, size_of}
use Rattle.quantized_cache.specs.Open.{cached_at, state_of, opened}
use Rattle.quantized_cache.specs.declared.CacheState.{CacheState}
use Rattle.encoded_rows.specs.Rows.{row_of}
use Rattle.prepare.specs.Prepare.{prepare_refusal}
use Rattle.resident.specs.Build.{resident_room_number, build_refusal, codes_after, scales_after, norms_after, resident_at}
use Rattle.resident.specs.declared.ResidentState.{ResidentState}
use Rattle.theorems.specs.Words.{Bytes, Accepted, LeftByPreparing, Opens, LeftByBuilding}

-- manifest and segments that pass every test of the library check, by document 01's table, with this expected CRC-32 and length of the scratch
pub record Sound (m : List ℕ) (expected scratch : ℕ) (s : List ℕ) : Type 0 where
  -- "1: length .., magic, a field cut short, counts, .. bytes left over; 2: metric, model or configuration refused"
  pub head : head_number m ≡ 0
  -- 1: "segment or row rule"
  pub rows : rows_ok m ≡ true
  -- "3: CRC-32 wrong, or not the expected one lent"
  pub crc : crc_ok m expected ≡ true
  -- "11: a lent slice too short": "tiling scratch under rows"
  pub room : rows_of m ≤ scratch
  -- "4: rows do not tile their segments"
  pub tiling : tiled m ≡ true
  -- 5: "length of the whole slice first, then each segment's records"
  pub whole : length s ≡ start_of m (segments_of m)
  pub records : (r : ℕ) → r < rows_of m → record_ok m s r ≡ true
  -- "6: segment CRC-32 wrong, or not the manifest's"
  pub sums : (n : ℕ) → n < segments_of m → segment_crc_ok m s n ≡ true

-- where the record of row r lies: in its segment, before the 4 bytes of the segment's CRC-32, and so in the slice of all segments
pub record Placed (m s : List ℕ) (r : ℕ) : Type 0 where
  pub segment : segment_at m r < segments_of m
  pub length_in : length_of m (segment_at m r) ≤ 67108864
  pub metadata : metadata_at m r ≤ 16384
  pub end : offset_at m r + record_length m r + 4 ≤ length_of m (segment_at m r)
  pub inside : record_at m r + record_length m r + 4 ≤ length s
  -- "Ids rise strictly"
  pub ids : (q : ℕ) → q < r → id_at m q < id_at m r

-- 21 for the head, where it is not: "the manifest's length or a field before its segments differs from what was accepted, or a segment length is
-- outside 4 to 67,108,864"
pub record Unchanged (m was : List ℕ) : Type 0 where
  pub long : length m ≡ length was
  pub before : take (table_at was) m ≡ take (table_at was) was
  pub lengths : (n : ℕ) → n < segments_of m → (4 ≤ length_of m n) × (length_of m n ≤ 67108864)

pub record Library : Type 0 where
  -- ---- demand 2

  -- "A cache that is written opens under the same bounds": with the options, platform, root and expected CRC-32 that it was prepared with, and a
  -- scratch of at least rows elements (a shorter one is 11)
  pub prepared-opened : (m s cache : List ℕ) (p : LeftByPreparing m s cache) → Bytes m → Bytes p.platform → Bytes p.root
      → (scratch : ℕ) → rows_of m ≤ scratch
      → opened m p.expected scratch cache p.platform p.root p.options ≡ record { refusal = none; state = state_of m cache }
  -- "and yields the encoder's own rows"
  pub prepared-rows : (m s cache : List ℕ) → LeftByPreparing m s cache
      → (r : ℕ) → r < rows_of m → cached_at (rows_of m) (dimensions_of m) cache r ≡ row_of base_levels midpoints m s r
  -- building yields them too, whatever the levels and midpoints, of which `LeftByBuilding` has the base's: where it was not refused, and
  -- whatever stood in the slices
  pub built-rows : (levels : ℕ) (mids : List Float) (m s : List ℕ) (refusal : Refusal) → refusal.number ≡ 0
      → (codes : List ℤ) (scales : List Float) (norms : List ℤ) (r : ℕ) → r < rows_of m
      → resident_at (dimensions_of m) (codes_after levels mids m s refusal codes) (scales_after levels mids m s refusal scales) (norms_after levels mids m s refusal norms) r
      ≡ row_of levels mids m s r
  -- "Written and built by one encoder: from the records lent": the cached and the resident rows are the same
  pub views_agree : (m s cache : List ℕ) (state : ResidentState) (codes : List ℤ) (scales : List Float) (norms : List ℤ)
      → LeftByPreparing m s cache → LeftByBuilding m s state codes scales norms
      → (r : ℕ) → r < rows_of m → cached_at (rows_of m) (dimensions_of m) cache r ≡ resident_at (dimensions_of m) codes scales norms r
  -- ---- "a library is accepted when the manifest and segment checks let it pass"

  -- it has passed their tests, and what passes them is accepted
  pub accepted : (m s : List ℕ) (a : Accepted m s) → Sound m a.expected a.scratch s
  pub sound : (m : List ℕ) (expected scratch : ℕ) (s : List ℕ) → Sound m expected scratch s → library_refusal m expected scratch s ≡ none
  pub placed : (m s : List ℕ) → Accepted m s → (r : ℕ) → r < rows_of m → Placed m s r
  -- "Preparing: 10, 7, 8, 9, 11, then 5": with a scratch of at least rows elements, and the CRC-32 that the check expected, an accepted library is
  -- refused by sizing's numbers or for a cache under its size, at 0
  pub accepted-prepared : (m s : List ℕ) (a : Accepted m s) (scratch : ℕ) → rows_of m ≤ scratch → (platform root : List ℕ) (o : Options) (lent : ℕ)
      → prepare_refusal m a.expected scratch s platform root o lent ≡ refused_or (sizing_of m platform root o) (cond (leb (size_of m platform root) lent) none (refused 11 0))
  -- "Resident building: 8, 11, 5": likewise by 8, or by 11 for a short slice, at 0
  pub accepted-built : (m s : List ℕ) (a : Accepted m s) (scratch : ℕ) → rows_of m ≤ scratch → (codes scales norms : ℕ)
      → build_refusal m a.expected scratch s codes scales norms ≡ refused (resident_room_number (rows_of m) (dimensions_of m) codes scales norms) 0
  -- and never, whatever CRC-32 is expected and whatever is lent, by 5
  pub never_5_prepared : (m s : List ℕ) → Accepted m s → (expected scratch : ℕ) (platform root : List ℕ) (o : Options) (lent : ℕ)
      → (prepare_refusal m expected scratch s platform root o lent).number ≡ 5 → ⊥
  pub never_5_built : (m s : List ℕ) → Accepted m s → (expected scratch codes scales norms : ℕ)
      → (build_refusal m expected scratch s codes scales norms).number ≡ 5 → ⊥
  -- ---- readings R3, R4: the head test of a search, of a lent manifest m

  -- against the head that the manifest check, the library check, opening or building of the manifest `was` returned, it is document 01's sentence
  -- on 21; segment CRC-32s, entries and the manifest's own CRC-32 may differ
  pub checked-head : (m was : List ℕ) → Bytes m → Bytes was → (expected scratch : ℕ) → (checked was expected scratch).refusal.number ≡ 0
      → (is_same_head m (checked was expected scratch).head ≡ true) ↔ Unchanged m was
  pub library_head : (m was : List ℕ) → Bytes m → Bytes was → (expected scratch : ℕ) (s : List ℕ) → (checked_library was expected scratch s).refusal.number ≡ 0
      → (is_same_head m (checked_library was expected scratch s).head ≡ true) ↔ Unchanged m was
  pub opened-head : (m was : List ℕ) → Bytes m → Bytes was → (cache : List ℕ) (state : CacheState) → Opens was cache state
      → (is_same_head m state.head ≡ true) ↔ Unchanged m was
  pub built-head : (m was : List ℕ) → Bytes m → Bytes was
      → (s : List ℕ) (state : ResidentState) (codes : List ℤ) (scales : List Float) (norms : List ℤ) → LeftByBuilding was s state codes scales norms
      → (is_same_head m state.head ≡ true) ↔ Unchanged m was
  -- in general, against the head of any manifest that passes the tests of its head
  pub same_head : (m was : List ℕ) → Bytes m → Bytes was → head_number was ≡ 0 → (is_same_head m (head_at was) ≡ true) ↔ Unchanged m was
  -- against the head that a refusal returned, every manifest is refused
  pub refused-head : (m : List ℕ) → is_same_head m zero_head ≡ true → ⊥
