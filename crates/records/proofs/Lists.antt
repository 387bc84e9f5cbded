-- Records stored one after the other, and all of them where there is room.
use mathlib.Core.Path.{◌≡◌, refl, sym, ap, ◌∙◌}
use Prim.Native.Nat.{ℕ, ◌+◌, ◌≤◌, ◌<◌}
use mathlib.Core.Bool.{true, ◌&&◌}
use mathlib.Core.List.{List, [], ◌∷◌, ◌++◌, map-append}
use lib.Dec.{leb, leb→le}
use lib.Ieee.{Float}
use lib.ListN.{length, drop, set, length-map}
use mir.Facts.{and_yes}
use Rattle.config.specs.Refusal.{refused}
use Rattle.le.proofs.Pastes.{paste-first, set_next}
use Rattle.rank.specs.Rows.{passing}
use Rattle.rank.proofs.Rows.{passing-more, count-all}
use Rattle.records.specs.Records.{records_room_ok, hand_out_refusal, place_record, listed_upto, handed_out}
use Rattle.records.specs.declared.Record.{Record}

module _ (ids : List ℕ) (distances : List Float) (rows : List ℕ) where
  abbrev at : ℕ → Record
  at = place_record ids distances rows

  abbrev listed : ℕ → List Record
  listed = listed_upto ids distances rows

  listed_length : (i : ℕ) → length (listed i) ≡ i
  listed_length i = length-map (passing (λ r. true) i) at ∙ count-all (λ r. true) i (λ r l. refl)

  listed_more : (i : ℕ) → listed (i + 1) ≡ listed i ++ at i ∷ []
  listed_more i = rw (passing-more (λ r. true) i refl) (map-append at (passing (λ r. true) i) (i ∷ []))

  module _ (out : List Record) where
    -- what stands in the slice after i turns
    abbrev pub upto : ℕ → List Record
    upto i = listed i ++ drop i out

    pub upto-none : upto 0 ≡ out
    unfolding passing
    upto-none = refl

    pub upto_next : (i : ℕ) → i < length out → set (upto i) i (at i) ≡ upto (i + 1)
    upto_next i h = set_next (listed i) out i (at i) (at i) (listed_length i) h ∙ ap (λ (l : List Record). l ++ drop (i + 1) out) (sym (listed_more i))

    -- where there is room, the count is within the slice of records, and with so many turns it is what `records` promises
    module _ (n : ℕ) (room : records_room_ok n (length ids) (length distances) (length rows) (length out) ≡ true) where
      pub fits : n ≤ length out
      fits = leb→le n (length out) (and_yes (leb n (length ids) && leb n (length distances) && leb n (length rows)) (leb n (length out)) (rw room tt)).1

      pub handed : (refused 0 0 ≡ hand_out_refusal ids distances rows n (length out)) × (upto n ≡ handed_out ids distances rows n out)
      handed = rw room (refl, sym (rw (listed_length n) at (paste-first out (listed n))))
