-- The three checks in their order. A manifest that is too short to end in a CRC-32 is refused whatever is expected.
use mathlib.Core.Path.{◌≡◌, sym, ap, ◌∙◌}
use mathlib.Core.Logic.{⊎_elim}
use mathlib.Core.List.{List}
use Prim.Native.Nat.{ℕ, ◌≤◌, ◌<◌}
use native.Mathlib.Omega.{arith}
use lib.ListN.{length}
use borrow.Author.Tests.{lt-leb}
use Rattle.le.proofs.Chain.{lt_or_le}
use Rattle.config.specs.Refusal.{Refusal, then_refusal}
use Rattle.config.proofs.Refusals.{then_rest, then_first, is-other}
use Rattle.format.specs.Fields.{stored_crc}
use Rattle.format.specs.Head.{opens_ok, head_number}
use Rattle.utf8.specs.Grammar.{span}
use Rattle.cache_format.specs.Sizing.{default_options}
use Rattle.entries.specs.Plan.{plan_number}
use Rattle.manifest.specs.Check.{manifest_number, checked_by, checked}
use Rattle.segment.specs.Check.{library_refusal, checked_library}
use Rattle.quantized_cache.specs.Size.{size_number}
use Rattle.quantized_cache.specs.Open.{open_number, open_refusal, state_of, zero_cache_state, opened_by, opened}
use Rattle.quantized_cache.specs.Open.{Opened}
use Rattle.listing_text.specs.Listing.{most_places}
use Rattle.listing.specs.Output.{admitted}

short-number : (m : List ℕ) (expected : ℕ) → length m < 66 → manifest_number m expected most_places ≡ 1
unfolding manifest_number plan_number head_number opens_ok span
short-number m expected h = rw (lt-leb 66 (length m) h)

module _ (m s cache platform root : List ℕ) (crc : ℕ) (own : 4 ≤ length m → crc ≡ stored_crc m) where
  abbrev first : Refusal
  first = (checked m crc most_places).refusal

  abbrev second : Refusal
  second = (checked_library m crc most_places s).refusal

  abbrev third : Opened
  third = opened m crc most_places cache platform root default_options

  number_is : manifest_number m crc most_places ≡ manifest_number m (stored_crc m) most_places
  number_is =
      ⊎_elim (λ l. short-number m crc l ∙ sym (short-number m (stored_crc m) l))
      (λ l. ap (λ (n : ℕ). manifest_number m n most_places) (own (omega arith)))
      (lt_or_le (length m) 66)

  -- so the manifest's own may be expected
  own_is : opened_by m cache (then_refusal first (then_refusal second third.refusal)) ≡ admitted m s cache platform root
  unfolding admitted opened_by checked_by library_refusal open_refusal open_number size_number
  own_is = rw number_is

  refused-is : (r : Refusal) → (r.number ≡ 0 → ⊥) → record { refusal = r; state = zero_cache_state } ≡ opened_by m cache r
  unfolding opened_by
  refused-is r h = rw (is-other r (state_of m cache) zero_cache_state h)

  pub refused-first : (first.number ≡ 0 → ⊥) → record { refusal = first; state = zero_cache_state } ≡ admitted m s cache platform root
  refused-first h = refused-is first h ∙ ap (opened_by m cache) (sym (then_first first (then_refusal second third.refusal) h)) ∙ own_is

  pub refused-second : first.number ≡ 0 → (second.number ≡ 0 → ⊥) → record { refusal = second; state = zero_cache_state } ≡ admitted m s cache platform root
  refused-second e h =
      refused-is second h
      ∙ ap (opened_by m cache) (sym (then_rest first (then_refusal second third.refusal) e ∙ then_first second third.refusal h)) ∙ own_is

  pub opened_last : first.number ≡ 0 → second.number ≡ 0 → third ≡ admitted m s cache platform root
  unfolding opened_by
  opened_last e f =
      ap (opened_by m cache) (sym (then_rest first (then_refusal second third.refusal) e ∙ then_rest second third.refusal f)) ∙ own_is
