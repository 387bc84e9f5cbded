-- Demand 3: "Monotone. Library, rows, query, k and eligible strokes fixed: with a larger candidate limit each place of the list holds the same
-- stroke or one earlier by (original distance, id), and no true nearest stroke is lost; from limit ≥ eligible on the list is exact; cached and
-- resident search answer alike to the bit." Beside it, document 01, The report: "A search succeeds when no check refuses it, and then reports and
-- lists what is defined above". The list is read from the answer slices as they stand afterwards.
use Rattle.std.specs.Prelude.{◌≡◌, true, not, cond, ◌&&◌, List, ℕ, ◌≤◌, ◌<◌, min, ltb, eqb, ℤ, length, Float}
use Rattle.rank.specs.Sort.{◌∈◌, Distinct}
use Rattle.config.specs.Refusal.{none}
use Rattle.format.specs.Fields.{generation_of, sequence_of}
use Rattle.quantized_cache.specs.declared.CacheState.{CacheState}
use Rattle.resident.specs.declared.ResidentState.{ResidentState}
use Rattle.search_spec.specs.Lent.{Call}
use Rattle.search_spec.specs.Lists.{eligible_rows}
use Rattle.search_spec.specs.Outcome.{Outcome, place_of, Succeeds, shown, shown_rows}
use Rattle.search_spec.specs.Kept.{cached, resident, agreement_cached, agreement_resident}
use Rattle.theorems.specs.Words.{Shares, not_after, InOrder, TrueNearest, Alike, Bytes, Accepted, LeftByPreparing, Opens, LeftByBuilding, Answerable}

-- o is the outcome of a call c that succeeds
pub record Lists (c : Call) (o : Outcome) : Type 0 where
  -- it reports what is defined
  pub generation : o.report.generation ≡ generation_of c.manifest
  pub sequence : o.report.sequence ≡ sequence_of c.manifest
  pub eligible : o.report.eligible ≡ length (eligible_rows c)
  pub measured : o.report.measured ≡ cond (eqb c.k 0) 0 (min c.limit (length (eligible_rows c)))
  pub complete : o.report.complete ≡ true
  pub approximate : o.report.approximate ≡ (not (eqb c.k 0) && ltb c.limit (length (eligible_rows c)))
  -- it lists min(k, eligible) eligible strokes, each once, in order
  pub count : o.report.count ≡ min c.k (length (eligible_rows c))
  pub size : length (shown_rows o) ≡ min c.k (length (eligible_rows c))
  pub strokes : (r : ℕ) → r ∈ shown_rows o → r ∈ eligible_rows c
  pub once : Distinct (shown_rows o)
  pub order : InOrder c (shown_rows o)
  -- id, distance and metadata at a place are those of the row there
  pub places : (i : ℕ) → i < min c.k (length (eligible_rows c)) → shown o i ≡ place_of c (shown o i).row
  -- there are true nearest strokes
  pub nearest : List ℕ
  pub nearest_are : TrueNearest c nearest
  -- (3) when the limit is at least the eligible count, the list is exactly these
  pub exact : length (eligible_rows c) ≤ c.limit → TrueNearest c (shown_rows o)

-- o is the outcome of the call c, p that of a call which shares library, rows, query, k and eligible strokes with it, with the larger limit
pub record Improves (c : Call) (o p : Outcome) : Type 0 where
  -- (1) the larger limit lists in each of the min(k, eligible) places the same stroke or one earlier
  pub better : (i : ℕ) → i < min c.k (length (eligible_rows c)) → not_after (shown p i) (shown o i) ≡ true
  -- (2) it lists every true nearest stroke that the smaller lists
  pub keeps : (l : List ℕ) → TrueNearest c l → (r : ℕ) → r ∈ l → r ∈ shown_rows o → r ∈ shown_rows p

-- A library, a cache and resident rows, and two calls, that are as demand 2 and (1) to (5) ask: by (5) the calls succeed, with the smaller limit below the
-- eligible count, and the larger not.
pub record Exhibit : Type 0 where
  pub smaller : Call
  pub larger : Call
  pub shares : Shares smaller larger
  pub few : smaller.limit < length (eligible_rows smaller)
  pub enough : length (eligible_rows larger) ≤ larger.limit
  pub accepted : Accepted smaller.manifest smaller.segments
  pub answers-smaller : Answerable smaller
  pub answers-larger : Answerable larger
  pub cache : List ℕ
  pub state : CacheState
  pub prepared : LeftByPreparing smaller.manifest smaller.segments cache
  pub manifest-bytes : Bytes smaller.manifest
  pub platform-bytes : Bytes prepared.platform
  pub root-bytes : Bytes prepared.root
  pub opens : Opens smaller.manifest cache state
  pub codes : List ℤ
  pub scales : List Float
  pub norms : List ℤ
  pub built : ResidentState
  pub left : LeftByBuilding smaller.manifest smaller.segments built codes scales norms
  -- there are places, and a true nearest stroke that the smaller limit lists
  pub some : 1 ≤ smaller.k
  pub nearest : List ℕ
  pub nearest_are : TrueNearest smaller nearest
  pub stroke : ℕ
  pub stroke-near : stroke ∈ nearest
  pub stroke-cached : stroke ∈ shown_rows (cached state cache smaller)
  pub stroke-resident : stroke ∈ shown_rows (resident built codes scales norms smaller)

pub record Demand : Type 0 where
  -- any cache, or resident rows, lent to calls that succeed, with whatever state: nothing else is asked, as a search that succeeds has itself
  -- found the library's entries in order
  pub lists_cached : (c : Call) (state : CacheState) (cache : List ℕ) → Succeeds (cached state cache c) → Lists c (cached state cache c)
  pub lists_resident : (c : Call) (state : ResidentState) (codes : List ℤ) (scales : List Float) (norms : List ℤ)
      → Succeeds (resident state codes scales norms c) → Lists c (resident state codes scales norms c)
  pub improves_cached : (c d : Call) (state other : CacheState) (cache : List ℕ) → Shares c d
      → Succeeds (cached state cache c) → Succeeds (cached other cache d) → c.limit ≤ d.limit
      → Improves c (cached state cache c) (cached other cache d)
  pub improves_resident : (c d : Call) (state other : ResidentState) (codes : List ℤ) (scales : List Float) (norms : List ℤ) → Shares c d
      → Succeeds (resident state codes scales norms c) → Succeeds (resident other codes scales norms d) → c.limit ≤ d.limit
      → Improves c (resident state codes scales norms c) (resident other codes scales norms d)
  -- (4) cached and resident answer alike, whatever the query, k, limit, ids and slices; the agreement calls too
  pub alike : (c : Call) (state : CacheState) (cache : List ℕ) (built : ResidentState) (codes : List ℤ) (scales : List Float) (norms : List ℤ)
      → LeftByPreparing c.manifest c.segments cache → Opens c.manifest cache state
      → LeftByBuilding c.manifest c.segments built codes scales norms
      → Alike (cached state cache c) (resident built codes scales norms c) × Alike (agreement_cached state cache c) (agreement_resident built codes scales norms c)
  -- (5) these calls succeed
  pub finds_cached : (c : Call) (state : CacheState) (cache : List ℕ) → Accepted c.manifest c.segments → Answerable c
      → LeftByPreparing c.manifest c.segments cache → Opens c.manifest cache state
      → ((cached state cache c).refusal ≡ none) × ((agreement_cached state cache c).refusal ≡ none)
  pub finds_resident : (c : Call) (state : ResidentState) (codes : List ℤ) (scales : List Float) (norms : List ℤ) → Accepted c.manifest c.segments
      → Answerable c → LeftByBuilding c.manifest c.segments state codes scales norms
      → ((resident state codes scales norms c).refusal ≡ none) × ((agreement_resident state codes scales norms c).refusal ≡ none)
  -- nothing of this is empty
  pub exhibit : Exhibit
