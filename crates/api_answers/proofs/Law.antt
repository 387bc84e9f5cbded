-- A refusal leaves zeros, and bytes that are no state's are refused: over the definitions of the answers.
use mathlib.Core.Path.{◌≡◌, refl}
use mathlib.Core.Bool.{true, false}
use mathlib.Core.List.{List}
use Prim.Native.Nat.{ℕ}
use borrow.Author.Tests.{ne_eqb}
use Rattle.config.specs.Refusal.{refused}
use Rattle.format.specs.Same.{is_same_head}
use Rattle.format.specs.declared.Head.{Head}
use Rattle.manifest.specs.Check.{checked_by}
use Rattle.quantized_cache.specs.Size.{sized_by}
use Rattle.quantized_cache.specs.Open.{opened_by}
use Rattle.prepare.specs.Prepare.{prepared_by}
use Rattle.resident.specs.Build.{resident_answer}
use Rattle.search_spec.specs.Lent.{Rows, Call, handed}
use Rattle.search_spec.specs.Tests.{ids_ok, front_number, open_by, front_by}
use Rattle.search_spec.specs.Outcome.{outcome_by, searched, agreed}
use Rattle.api_state.specs.Bytes.{cache_in, resident_in}
use Rattle.api_state.proofs.Laws.{zero_head_lem, zero_cache, zero_resident, no_metric}
use Rattle.api_answers.specs.Numbers.{info_numbers, report_numbers}
use Rattle.api_answers.specs.Law.{Silent, Law}

silent : (number : ℕ) (rows : Rows) (c : Call) (looked : List ℕ) → Silent (outcome_by number rows c looked)
unfolding outcome_by report_numbers
silent number rows c looked n = let z = ne_eqb (outcome_by number rows c looked).refusal.number 0 n in (rw z refl, rw z refl)

-- a head that the manifest has not
no_head : (head : Head) (rows : Rows) (c : Call) (looked : List ℕ) → is_same_head c.manifest head ≡ false → ids_ok (handed c.wanted) ≡ true
    → (outcome_by (front_number head c) rows c looked).refusal ≡ refused 21 0
unfolding outcome_by front_by open_by
no_head head rows c looked other ids = rw (ids, other) refl

pub law : Law
unfolding checked_by sized_by opened_by prepared_by resident_answer info_numbers searched agreed cache_in resident_in
law = record {
  checking = λ m crc scratch n. rw (ne_eqb _ 0 n) zero_head_lem;
  library_check = λ m crc scratch s n. rw (ne_eqb _ 0 n) zero_head_lem;
  sizing = λ m crc scratch platform root o n. rw (ne_eqb _ 0 n) refl;
  preparing = λ m crc scratch s platform root o cache n. rw (ne_eqb _ 0 n) refl;
  opening = λ m crc scratch cache platform root o n. rw (ne_eqb _ 0 n) zero_cache;
  building = λ m crc scratch s codes scales norms n. rw (ne_eqb _ 0 n) zero_resident;
  search = λ head rows c. silent _ rows c _;
  agreement = λ head rows c. silent _ rows c _;
  no_cache = λ b h cache c ids. let other = no_metric b 96 h c.manifest in (no_head _ _ c _ other ids, no_head _ _ c _ other ids);
  no_resident = λ b h codes scales norms c ids. let other = no_metric b 112 h c.manifest in (no_head _ _ c _ other ids, no_head _ _ c _ other ids);
}
