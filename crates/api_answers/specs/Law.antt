-- What holds of every answer that crosses to C.
use Rattle.std.specs.Prelude.{◌≡◌, true, List, ℕ, ◌<◌, ℤ, Float, replicate}
use Rattle.le.specs.Le.{le_at}
use Rattle.config.specs.Refusal.{Refusal, refused}
use Rattle.format.specs.declared.Head.{Head}
use Rattle.cache_format.specs.declared.Options.{Options}
use Rattle.manifest.specs.Check.{checked}
use Rattle.segment.specs.Check.{checked_library}
use Rattle.quantized_cache.specs.Size.{sized}
use Rattle.quantized_cache.specs.Open.{opened}
use Rattle.prepare.specs.Prepare.{prepared}
use Rattle.resident.specs.Build.{built}
use Rattle.search_spec.specs.Lent.{Rows, Call, handed}
use Rattle.search_spec.specs.Tests.{ids_ok}
use Rattle.search_spec.specs.Outcome.{Outcome, searched, agreed}
use Rattle.search_spec.specs.Kept.{cached, resident, agreement_cached, agreement_resident}
use Rattle.api_state.specs.Bytes.{head_bytes, bytes_of_cache, cache_in, resident_bytes, resident_in}
use Rattle.api_answers.specs.Numbers.{info_numbers, report_numbers}

abbrev pub Refuses : Refusal → Type 0
Refuses refusal = refusal.number ≡ 0 → ⊥

-- report and agreement of a refused search or count
abbrev pub Silent : Outcome → Type 0
Silent o = Refuses o.refusal → (report_numbers o.report ≡ replicate 7 0) × (o.agreement ≡ 0)

-- `scratch` is the length of the scratch slice
pub record Law : Type 0 where
  -- "All counts are then 0" (document 01, What each place turns away); readings R23: "the state returned by a refused check, opening or building is all zero"
  pub checking : (m : List ℕ) (crc scratch : ℕ) → let a = checked m crc scratch in Refuses a.refusal → head_bytes a.head ≡ replicate 600 0
  pub library_check : (m : List ℕ) (crc scratch : ℕ) (s : List ℕ) → let a = checked_library m crc scratch s in Refuses a.refusal → head_bytes a.head ≡ replicate 600 0
  pub sizing : (m : List ℕ) (crc scratch : ℕ) (platform root : List ℕ) (o : Options) → let a = sized m crc scratch platform root o in Refuses a.refusal → a.size ≡ 0
  pub preparing : (m : List ℕ) (crc scratch : ℕ) (s platform root : List ℕ) (o : Options) (cache : ℕ)
      → let a = prepared m crc scratch s platform root o cache in Refuses a.refusal → info_numbers a.info ≡ replicate 5 0
  pub opening : (m : List ℕ) (crc scratch : ℕ) (cache platform root : List ℕ) (o : Options)
      → let a = opened m crc scratch cache platform root o in Refuses a.refusal → bytes_of_cache a.state ≡ replicate 608 0
  pub building : (m : List ℕ) (crc scratch : ℕ) (s : List ℕ) (codes scales norms : ℕ)
      → let a = built m crc scratch s codes scales norms in Refuses a.refusal → resident_bytes a.state ≡ replicate 624 0
  pub search : (head : Head) (rows : Rows) (c : Call) → Silent (searched head rows c)
  pub agreement : (head : Head) (rows : Rows) (c : Call) → Silent (agreed head rows c)
  -- readings R3: bytes with a metric over 2, which no opening and no building leaves, are refused with 21 at 0 for every manifest and call; before it
  -- is only 19
  pub no_cache : (b : List ℕ) → 2 < le_at 8 b 56 → (cache : List ℕ) (c : Call) → ids_ok (handed c.wanted) ≡ true
      → ((cached (cache_in b) cache c).refusal ≡ refused 21 0) × ((agreement_cached (cache_in b) cache c).refusal ≡ refused 21 0)
  pub no_resident : (b : List ℕ) → 2 < le_at 8 b 56 → (codes : List ℤ) (scales : List Float) (norms : List ℤ) (c : Call) → ids_ok (handed c.wanted) ≡ true
      → ((resident (resident_in b) codes scales norms c).refusal ≡ refused 21 0) × ((agreement_resident (resident_in b) codes scales norms c).refusal ≡ refused 21 0)
