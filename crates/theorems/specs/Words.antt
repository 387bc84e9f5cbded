-- The words of demands 2 and 3 (document 01, The report: "In demand 3, a library is accepted when the manifest and segment checks let it pass; library
-- and rows are lent unchanged to each search. .. A stroke is a row's record, eligible by its id").
use Rattle.std.specs.Prelude.{◌≡◌, Bool, true, false, cond, List, ℕ, ◌≤◌, ◌<◌, min, leb, ℤ, length, get_or, take, Float}
use Rattle.std.specs.Float.{binary64}
use Rattle.std.specs.Float.Ieee.{to_bits}
use Rattle.float.specs.Order.{total_below}
use Rattle.float.specs.Values.{plus_zero}
use Rattle.rank.specs.Sort.{◌∈◌, Distinct, Ascending}
use Rattle.config.specs.Vector.{valid_vector}
use Rattle.config.specs.Refusal.{Refusal}
use Rattle.quantization.specs.Encoder.{base_levels, midpoints}
use Rattle.format.specs.Fields.{dimensions_of, rows_of, metric_at}
use Rattle.cache_format.specs.declared.Options.{Options}
use Rattle.segment.specs.Check.{library_refusal}
use Rattle.quantized_cache.specs.Size.{size_of}
use Rattle.quantized_cache.specs.Open.{opened}
use Rattle.quantized_cache.specs.declared.CacheState.{CacheState}
use Rattle.prepare.specs.Prepare.{prepare_refusal, cache_after}
use Rattle.resident.specs.Build.{build_refusal, built_by, codes_after, scales_after, norms_after}
use Rattle.resident.specs.declared.ResidentState.{ResidentState}
use Rattle.search_spec.specs.Lent.{Call, Singles, handed}
use Rattle.search_spec.specs.Lists.{by_original, eligible_rows}
use Rattle.search_spec.specs.Outcome.{Outcome}
use Rattle.search_spec.specs.declared.Place.{Place}

-- ---- strokes, by original distance and id

-- what two calls share: library, query, k and eligible strokes; limit, ids handed in, ids allowed and every slice may differ
pub record Shares (c d : Call) : Type 0 where
  pub manifest : c.manifest ≡ d.manifest
  pub segments : c.segments ≡ d.segments
  pub query : c.query ≡ d.query
  pub k : c.k ≡ d.k
  pub strokes : eligible_rows c ≡ eligible_rows d

-- "the same stroke or one earlier by (original distance, id)": totalOrder on the distance, then id
abbrev pub not_after : Place → Place → Bool
not_after p q =
    cond (total_below p.distance q.distance) true
    (cond (total_below q.distance p.distance) false (leb p.id q.id))

-- the stroke of row o comes later in that order than the one of row r: it is neither the same nor an earlier one
abbrev pub LaterThan : Call → ℕ → ℕ → Type 0
LaterThan c r o = by_original c.manifest c.segments c.query o r ≡ false

-- each is no later than those after it
abbrev pub InOrder : Call → List ℕ → Type 0
InOrder c l = Ascending (by_original c.manifest c.segments c.query) l

-- the true nearest strokes: min(k, eligible) eligible strokes, each once, such that every other eligible one comes later than each of them
pub record TrueNearest (c : Call) (l : List ℕ) : Type 0 where
  pub count : length l ≡ min c.k (length (eligible_rows c))
  pub strokes : (r : ℕ) → r ∈ l → r ∈ eligible_rows c
  pub once : Distinct l
  pub others : (r o : ℕ) → r ∈ l → o ∈ eligible_rows c → ¬ (o ∈ l) → LaterThan c r o

-- ---- two outcomes

abbrev pub SameBits : Float → Float → Type 0
SameBits x y = to_bits binary64 x ≡ to_bits binary64 y

-- "Alike: with all else lent the same, every returned number and answer element is the same, distances by their bits"; the working slices too
pub record Alike (o p : Outcome) : Type 0 where
  pub refusal : o.refusal ≡ p.refusal
  pub report : o.report ≡ p.report
  pub list : o.list ≡ p.list
  pub agreement : o.agreement ≡ p.agreement
  pub ids : o.answers.ids ≡ p.answers.ids
  pub distances : length o.answers.distances ≡ length p.answers.distances
  pub bits : (i : ℕ) → SameBits (get_or o.answers.distances i plus_zero) (get_or p.answers.distances i plus_zero)
  pub rows : o.answers.rows ≡ p.answers.rows
  pub starts : o.answers.starts ≡ p.answers.starts
  pub lengths : o.answers.lengths ≡ p.answers.lengths
  pub work : o.work ≡ p.work

-- ---- library and rows

-- what a `&[u8]` always is; the definitions are over lists of any numbers, of which a CRC-32 or a field need not fit its bytes
abbrev pub Bytes : List ℕ → Type 0
Bytes l = (b : ℕ) → b ∈ l → b < 256

-- "accepted when the manifest and segment checks let it pass": the segment check tests the manifest anew
pub record Accepted (m s : List ℕ) : Type 0 where
  pub expected : ℕ
  pub scratch : ℕ
  pub passes : (library_refusal m expected scratch s).number ≡ 0

-- "the cache is the slice of its size as preparing leaves it", whatever else was lent to preparing
pub record LeftByPreparing (m s cache : List ℕ) : Type 0 where
  pub expected : ℕ
  pub scratch : ℕ
  pub platform : List ℕ
  pub root : List ℕ
  pub options : Options
  pub lent : List ℕ
  pub refusal : Refusal
  pub returned : refusal ≡ prepare_refusal m expected scratch s platform root options (length lent)
  pub passes : refusal.number ≡ 0
  pub left : cache ≡ take (size_of m platform root) (cache_after m s platform root refusal lent)

-- opening the cache, whatever else was lent to it, returned the state
pub record Opens (m cache : List ℕ) (state : CacheState) : Type 0 where
  pub expected : ℕ
  pub scratch : ℕ
  pub platform : List ℕ
  pub root : List ℕ
  pub options : Options
  pub passes : (opened m expected scratch cache platform root options).refusal.number ≡ 0
  pub returned : state ≡ (opened m expected scratch cache platform root options).state

-- "the resident slices are as building leaves them, at the lengths they were built with", and building returned the state
pub record LeftByBuilding (m s : List ℕ) (state : ResidentState) (codes : List ℤ) (scales : List Float) (norms : List ℤ) : Type 0 where
  pub expected : ℕ
  pub scratch : ℕ
  pub lent_codes : List ℤ
  pub lent_scales : List Float
  pub lent_norms : List ℤ
  pub refusal : Refusal
  pub returned : refusal ≡ build_refusal m expected scratch s (length lent_codes) (length lent_scales) (length lent_norms)
  pub passes : refusal.number ≡ 0
  pub codes-left : codes ≡ codes_after base_levels midpoints m s refusal lent_codes
  pub scales-left : scales ≡ scales_after base_levels midpoints m s refusal lent_scales
  pub norms-left : norms ≡ norms_after base_levels midpoints m s refusal lent_norms
  pub state-returned : state ≡ (built_by m refusal (length lent_codes) (length lent_scales) (length lent_norms)).state

-- ---- what (5) asks of a call: an allowed query, k ≤ 10,000, k ≤ limit ≤ 65,536, at most 1,000,000 ids and slices long enough
pub record Answerable (c : Call) : Type 0 where
  pub query : valid_vector (metric_at c.manifest) (dimensions_of c.manifest) c.query ≡ true
  pub singles : Singles c.query
  pub most : c.k ≤ 10000
  pub low : c.k ≤ c.limit
  pub high : c.limit ≤ 65536
  pub ids : handed c.wanted ≤ 1000000
  pub answer-ids : min c.k (rows_of c.manifest) ≤ length c.answers.ids
  pub answer-distances : min c.k (rows_of c.manifest) ≤ length c.answers.distances
  pub answer-rows : min c.k (rows_of c.manifest) ≤ length c.answers.rows
  pub answer-starts : min c.k (rows_of c.manifest) ≤ length c.answers.starts
  pub answer-lengths : min c.k (rows_of c.manifest) ≤ length c.answers.lengths
  pub candidate_keys : min c.limit (rows_of c.manifest) ≤ length c.work.keys
  pub candidate_row_slice : min c.limit (rows_of c.manifest) ≤ length c.work.rows
  pub id_slice : handed c.wanted ≤ length c.work.ids
