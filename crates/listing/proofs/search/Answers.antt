use mathlib.Core.Path.{◌≡◌, sym, refl, ap, ◌∙◌}
use mathlib.Core.List.{List}
use Prim.Native.Nat.{ℕ, ◌≤◌}
use lib.Ieee.{Float}
use lib.ListN.{length}
use borrow.Author.Rules.{rules}
use Rattle.text.proofs.Puts.{put_same}
use Rattle.config.proofs.Numbers.{some_number}
use Rattle.quantized_cache.specs.declared.CacheState.{CacheState}
use Rattle.search_spec.specs.Lent.{Rows, Wanted, Answers, Work, Call, answers_of, call_of}
use Rattle.search_spec.specs.Kept.{cached_rows, cached}
use Rattle.search_spec.specs.Outcome.{Outcome, Searched, returned}
use Rattle.listing_text.specs.Listing.{refusal_text, listing, lines_of, Numbers, most_places}
use Rattle.listing_input.specs.Parts.{max_file_bytes}
use Rattle.listing.specs.Output.{lent_answers, lent_work, answer_text}
use Rattle.listing.proofs.Lent.{Sized, sized, Alike, room-is, lent-room, alike}
use Rattle.listing.proofs.Listed.{refusal_text_lem, few-places, places_fit, places_numbers, places_text}
use Rattle.listing.proofs.search.Goals as goal

-- the slices that are printed, and what is left in them
abbrev Shown : List ℕ → List Float → List ℕ → Answers → Type 0
Shown i d p a = (i ≡ a.ids) × (d ≡ a.distances) × (p ≡ a.rows)

shown-distances : {i p t l : List ℕ} {d e : List Float} {a : Answers} → answers_of i e p t l ≡ a → d ≡ e → d ≡ a.distances
shown-distances h d = d ∙ ap (λ (a : Answers). a.distances) h

shown : {i j : List ℕ} {d e : List Float} {p q t l : List ℕ} {a : Answers} → answers_of j e q t l ≡ a → i ≡ j → d ≡ e → p ≡ q → Shown i d p a
shown h i d p = (i ∙ ap (λ (a : Answers). a.ids) h, shown-distances h d, p ∙ ap (λ (a : Answers). a.rows) h)

-- a search that is lent slices of so many elements, and what it returns
module _ (state : CacheState) (cache m s : List ℕ) (wanted : Wanted) (query : List Float) (k limit : ℕ) (a : Answers) (w : Work) (z : Sized a w) (r : Searched)
    (e : r ≡ returned (cached state cache (call_of m s wanted query k limit a w))) where
  abbrev rows : Rows
  rows = cached_rows m state cache

  abbrev call : Call
  call = call_of m s wanted query k limit a w

  -- the outcome of the definition's call
  abbrev outcome : Outcome
  outcome = cached state cache (call_of m s wanted query k limit lent_answers lent_work)

  like : Alike (cached state cache call) outcome
  like = alike state.head rows m s wanted query k limit a lent_answers w lent_work (room-is a w z ∙ sym lent-room)

  refusal-printed : (r.refusal.number ≡ 0 → ⊥) → refusal_text r.refusal ≡ answer_text outcome.refusal outcome.report outcome.list
  refusal-printed = refusal_text_lem state.head rows call outcome like r e

  few : r.refusal.number ≡ 0 → length m ≤ max_file_bytes → r.report.count ≤ most_places
  few = few-places state.head rows call outcome like r e

  numbers : {d : List Float} → r.refusal.number ≡ 0 → d ≡ (cached state cache call).answers.distances → Numbers d r.report.count
  numbers h g = rw g (places_numbers state.head rows call outcome like r e h)

  module _ {i : List ℕ} {d : List Float} {p : List ℕ} (h : r.refusal.number ≡ 0) (f : Shown i d p (cached state cache call).answers) where
    fit : (r.report.count ≤ length i) × (r.report.count ≤ length d) × (r.report.count ≤ length p)
    fit = rw (f.0, f.1, f.2) (places_fit state.head rows call outcome like r e h)

    list-printed : listing r.report (lines_of i d p r.report.count) ≡ answer_text outcome.refusal outcome.report outcome.list
    list-printed = rw (f.0, f.1, f.2) (places_text state.head rows call outcome like r e h)

pub returns-in-Err-clause-fact : goal.returns-in-Err-clause-fact
returns-in-Err-clause-fact c =
    let z = sized c.zeros-ids.ensures c.zeros-distances.ensures c.zeros-rows.ensures c.zeros-starts.ensures c.zeros-lengths.ensures c.zeros-keys.ensures c.zeros-candidates.ensures in
    let e = rw c.in-Err.is at c.search.ensures.fact.0 in
    put_same (refusal-printed _ _ _ _ _ _ _ _ _ _ z _ e (some_number c.in-Err.refused.number)) c.write_refusal.ensures.put

pub write_listing-requires : goal.write_listing-requires
write_listing-requires c =
    let z = sized c.zeros-ids.ensures c.zeros-distances.ensures c.zeros-rows.ensures c.zeros-starts.ensures c.zeros-lengths.ensures c.zeros-keys.ensures c.zeros-candidates.ensures in
    let e = rw c.in-Ok.is at c.search.ensures.fact.0 in
    record {
      count_le_most_places = (few _ _ _ _ _ _ _ _ _ _ z _ e refl c.requires.0, c.requires.1);
      count_in_bounds = fit _ _ _ _ _ _ _ _ _ _ z _ e refl (shown c.search.ensures.fact.1 (search rules) (search rules) (search rules));
      numbers = numbers _ _ _ _ _ _ _ _ _ _ z _ e refl (shown-distances c.search.ensures.fact.1 (search rules));
    }

pub returns-in-Ok-clause-fact : goal.returns-in-Ok-clause-fact
returns-in-Ok-clause-fact c =
    let z = sized c.zeros-ids.ensures c.zeros-distances.ensures c.zeros-rows.ensures c.zeros-starts.ensures c.zeros-lengths.ensures c.zeros-keys.ensures c.zeros-candidates.ensures in
    let e = rw c.in-Ok.is at c.search.ensures.fact.0 in
    put_same (list-printed _ _ _ _ _ _ _ _ _ _ z _ e refl (shown c.search.ensures.fact.1 (search rules) (search rules) (search rules))) c.write_listing.ensures.put
