-- What prepared and built rows are to a search: their heads are the library's, they have their lengths, and their rows are the encoder's own.
use mathlib.Core.Path.{◌≡◌, refl, ap, ◌∙◌}
use mathlib.Core.Bool.{true}
use mathlib.Core.List.{List}
use Prim.Native.Nat.{ℕ, ◌<◌}
use lib.IntN.{ℤ}
use lib.ListN.{length, take}
use lib.Ieee.{Float}
use Rattle.config.specs.Refusal.{Refusal}
use Rattle.config.proofs.Refusals.{is_done}
use Rattle.quantization.specs.Encoder.{base_levels, midpoints}
use Rattle.format.specs.Fields.{dimensions_of, rows_of}
use Rattle.format.specs.Head.{head_at}
use Rattle.quantized_cache.specs.Size.{size_of}
use Rattle.quantized_cache.specs.Open.{cached_at, opened_by}
use Rattle.quantized_cache.specs.declared.CacheState.{CacheState}
use Rattle.quantized_cache.specs.Open.{Opened}
use Rattle.quantized_cache.proofs.Succeeds.{opened-is, opened_length}
use Rattle.prepare.specs.Prepare.{prepare_refusal, cache_after}
use Rattle.prepare.proofs.Opened.{prepared_slice, prepared-rows}
use Rattle.encoded_rows.specs.Rows.{row_of}
use Rattle.resident.specs.Build.{build_refusal, zero_resident_state, resident_answer, resident_at}
use Rattle.resident.specs.declared.ResidentState.{ResidentState}
use Rattle.resident.proofs.Theorems.{built-rows, built-held}
use Rattle.search_spec.specs.Lent.{Rows, base}
use Rattle.search_spec.specs.Kept.{cached_rows, resident_rows}
use Rattle.theorems.specs.Words.{LeftByPreparing, Opens, LeftByBuilding}

-- a library's own rows, as a search sees them
pub record Own (m s : List ℕ) (v : Rows) : Type 0 where
  pub encoding : v.encoding ≡ base
  pub length_ok : v.length_ok ≡ true
  pub at : (r : ℕ) → r < rows_of m → v.at r ≡ row_of base_levels midpoints m s r

-- what preparing left, from what it refused
module _ (m s cache : List ℕ) (p : LeftByPreparing m s cache) where
  pub prepared-passes : (prepare_refusal m p.expected p.scratch s p.platform p.root p.options (length p.lent)).number ≡ 0
  prepared-passes = rw p.returned at p.passes

  pub prepared-is : cache
      ≡ take (size_of m p.platform p.root) (cache_after m s p.platform p.root (prepare_refusal m p.expected p.scratch s p.platform p.root p.options (length p.lent)) p.lent)
  prepared-is = p.left ∙ ap (λ (f : Refusal). take (size_of m p.platform p.root) (cache_after m s p.platform p.root f p.lent)) p.returned

  pub cached-rows : (r : ℕ) → r < rows_of m → cached_at (rows_of m) (dimensions_of m) cache r ≡ row_of base_levels midpoints m s r
  cached-rows r l =
      ap (λ (x : List ℕ). cached_at (rows_of m) (dimensions_of m) x r)
      (prepared-is ∙ prepared_slice m p.expected p.scratch s p.platform p.root p.options (length p.lent) prepared-passes p.lent)
      ∙ prepared-rows m p.expected p.scratch s p.platform p.root p.options (length p.lent) prepared-passes r l

module _ (m s cache : List ℕ) (state : CacheState) (p : LeftByPreparing m s cache) (o : Opens m cache state) where
  pub cached-head : state.head ≡ head_at m
  unfolding opened_by
  cached-head =
      ap (λ (x : CacheState). x.head) o.returned
      ∙ ap (λ (x : Opened). x.state.head) (opened-is m o.expected o.scratch cache o.platform o.root o.options o.passes)

  pub cached_own : Own m s (cached_rows m state cache)
  unfolding cached_rows opened_by
  cached_own =
      record {
        encoding = refl;
        length_ok = rw o.returned (opened_length m o.expected o.scratch cache o.platform o.root o.options o.passes);
        at = cached-rows m s cache p;
      }

module _ (m s : List ℕ) (state : ResidentState) (codes : List ℤ) (scales : List Float) (norms : List ℤ) (b : LeftByBuilding m s state codes scales norms) where
  pub built-passes : (build_refusal m b.expected b.scratch s (length b.lent_codes) (length b.lent_scales) (length b.lent_norms)).number ≡ 0
  built-passes = rw b.returned at b.passes

  pub built-head : state.head ≡ head_at m
  unfolding resident_answer
  built-head =
      let built : ResidentState = record { head = head_at m; codes = length b.lent_codes; scales = length b.lent_scales; norms = length b.lent_norms } in
      ap (λ (x : ResidentState). x.head) (b.state-returned ∙ is_done b.refusal built zero_resident_state b.passes)

  pub resident-rows : (r : ℕ) → r < rows_of m → resident_at (dimensions_of m) codes scales norms r ≡ row_of base_levels midpoints m s r
  resident-rows r l = rw (b.codes-left, b.scales-left, b.norms-left) (built-rows base_levels midpoints m s b.refusal b.passes b.lent_codes b.lent_scales b.lent_norms r l)

  pub built_own : Own m s (resident_rows m state codes scales norms)
  unfolding resident_rows
  built_own =
      record {
        encoding = refl;
        length_ok = rw (b.state-returned, b.codes-left, b.scales-left, b.norms-left, b.returned) (built-held m b.expected b.scratch s b.lent_codes b.lent_scales b.lent_norms built-passes);
        at = resident-rows;
      }
