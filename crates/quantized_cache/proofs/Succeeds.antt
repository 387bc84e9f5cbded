-- What an opening that refuses nothing says of the cache, whoever wrote it.
use mathlib.Core.Path.{◌≡◌, refl, ap, ◌∙◌}
use mathlib.Core.Logic.{◌↔◌}
use mathlib.Core.Bool.{true, cond, and-eq-true_iff}
use mathlib.Core.List.{List}
use Prim.Native.Nat.{ℕ, ◌+◌, ◌*◌, ◌<◌}
use lib.Dec.{eqb, leb}
use lib.ListN.{length}
use borrow.Author.Tests.{eqb-true, eq-eqb, leb-true, le-leb}
use Rattle.le.proofs.LeLaws.{AllBytes}
use Rattle.crc32.specs.Crc.{ends_in_crc}
use Rattle.config.specs.Refusal.{none, refused}
use Rattle.config.proofs.Refusals.{not_zero, held_number, goes_on, none-refused}
use Rattle.quantization.specs.Encoder.{base_levels}
use Rattle.format.specs.Fields.{dimensions_of, rows_of, metric_at}
use Rattle.format.specs.Same.{is_same_head}
use Rattle.format.proofs.Refusals.{or_else_lem}
use Rattle.format.proofs.First.{each_passes}
use Rattle.format.proofs.Same.{Unchanged}
use Rattle.manifest.specs.Check.{manifest_number}
use Rattle.manifest.proofs.Heads.{accepted-head}
use Rattle.cache_format.specs.Cache.{identity, cache_version, row_length}
use Rattle.cache_format.specs.Open.{cache_head_number as head_number_of}
use Rattle.cache_format.specs.declared.Options.{Options}
use Rattle.quantized_cache.specs.Size.{size_of, sizing_of, size_number}
use Rattle.quantized_cache.specs.Open.{RoomFor, cached_ok, bad_row, content_refusal, open_number, open_refusal, cache_length_ok, state_of, opened_by, opened, Opened}
use Rattle.quantized_cache.specs.declared.CacheState.{CacheState}
use Rattle.quantized_cache.proofs.Opens.{head_passed}

-- the rows and the CRC-32: number 0 is no refusal, and every row is valid
module _ (levels : ℕ) (m cache : List ℕ) (h : (content_refusal levels (metric_at m) (rows_of m) (dimensions_of m) cache).number ≡ 0) where
  abbrev bad : ℕ
  bad = bad_row levels (metric_at m) (rows_of m) (dimensions_of m) cache

  passed : (eqb bad (rows_of m) ≡ true) × ((cond (ends_in_crc cache) none (refused 15 0)).number ≡ 0)
  unfolding content_refusal
  passed = held_number (eqb bad (rows_of m)) (cond (ends_in_crc cache) none (refused 15 0)) (refused 14 bad) not_zero h

  content-none : content_refusal levels (metric_at m) (rows_of m) (dimensions_of m) cache ≡ none
  unfolding content_refusal
  content-none = rw (passed.0, (held_number (ends_in_crc cache) none (refused 15 0) not_zero passed.1).0)

  content-rows : (n : ℕ) → n < rows_of m → cached_ok levels (metric_at m) (rows_of m) (dimensions_of m) cache n ≡ true
  content-rows n l = each_passes (cached_ok levels (metric_at m) (rows_of m) (dimensions_of m) cache) (rows_of m) n (eqb-true bad (rows_of m) passed.0) l

module _ (m : List ℕ) (expected room : ℕ) (cache platform root : List ℕ) (o : Options) (h : (open_refusal m expected room cache platform root o).number ≡ 0) where
  parts : (open_number m expected room cache platform root o ≡ 0) × ((content_refusal base_levels (metric_at m) (rows_of m) (dimensions_of m) cache).number ≡ 0)
  unfolding open_refusal
  parts = none-refused (open_number m expected room cache platform root o) (content_refusal base_levels (metric_at m) (rows_of m) (dimensions_of m) cache) h

  -- number 0 is no refusal
  pub opened-none : open_refusal m expected room cache platform root o ≡ none
  unfolding open_refusal
  opened-none = goes_on (open_number m expected room cache platform root o) (content_refusal base_levels (metric_at m) (rows_of m) (dimensions_of m) cache) parts.0 ∙ content-none base_levels m cache parts.1

  pub opened-is : opened m expected room cache platform root o ≡ record { refusal = none; state = state_of m cache }
  unfolding opened_by
  opened-is = rw opened-none

  pub opened-room : RoomFor (length cache) (rows_of m) (dimensions_of m)
  opened-room = (head_passed m expected room cache platform root o parts.0).rows

  pub opened_rows : (n : ℕ) → n < rows_of m → cached_ok base_levels (metric_at m) (rows_of m) (dimensions_of m) cache n ≡ true
  opened_rows = content-rows base_levels m cache parts.1

  -- the state that is returned passes the search's test of this cache's length
  pub opened_length : cache_length_ok (opened m expected room cache platform root o).state (rows_of m) (dimensions_of m) (length cache) ≡ true
  unfolding cache_length_ok
  opened_length = rw opened-is (rw (eq-eqb (length cache) (length cache) refl, le-leb (rows_of m * row_length (dimensions_of m) + 4) (length cache) opened-room))

  -- readings R3: against the state's head, the head test of a search is document 01's sentence on 21
  pub opened-head : (lent : List ℕ) → AllBytes lent → AllBytes m
      → (is_same_head lent (opened m expected room cache platform root o).state.head ≡ true) ↔ Unchanged lent m
  unfolding open_number size_number
  opened-head lent b c =
      let size = (or_else_lem (size_number m expected room platform root o) (head_number_of cache_version (size_of m platform root) (identity platform root m) cache) parts.0).0 in
      let n = (or_else_lem (manifest_number m expected room) (sizing_of m platform root o) size).0 in
      accepted-head lent m b c expected room (opened m expected room cache platform root o).state.head n (ap (λ (x : Opened). x.state.head) opened-is)

-- what a length that passes the search's test says
pub length_passed : (state : CacheState) (rows dimensions size : ℕ) → cache_length_ok state rows dimensions size ≡ true → (size ≡ state.cache) × RoomFor size rows dimensions
unfolding cache_length_ok
length_passed state rows dimensions size h =
    let b = (and-eq-true_iff (eqb size state.cache) (leb (rows * row_length dimensions + 4) size)).0 h in
    (eqb-true size state.cache b.0, leb-true (rows * row_length dimensions + 4) size b.1)
