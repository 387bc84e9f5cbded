-- What is printed of files, from what stands behind it: QUERY and CALL as they are read, the admission, the search.
use mathlib.Core.Path.{◌≡◌, sym}
use mathlib.Core.List.{List}
use Prim.Native.Nat.{ℕ, ◌/◌}
use Rattle.std.specs.Prelude.{Result}
use lib.Ieee.{Float}
use lib.ListN.{length, take, drop}
use lib.Seq.{take_at}
use Rattle.le.specs.Le.{le_at, paste}
use Rattle.le.proofs.Pastes.{paste-first}
use Rattle.config.proofs.Refusals.{then_rest, then_first, is-other}
use Rattle.config.proofs.Vectors.{length_floats}
use Rattle.search_spec.specs.Lent.{call_of, every}
use Rattle.listing_text.specs.Listing.{refusal_text}
use Rattle.listing_input.specs.Files.{Files, input_of}
use Rattle.listing_input.specs.Parts.{query_of, k_of, limit_of}
use Rattle.listing_input.specs.declared.InputError.{InputError}
use Rattle.listing.specs.Output.{lent_answers, lent_work, call_on, admission, found, list_refusal, answer_text, list_answer, text_of, output}

pub query_read : (d : List Float) (query : List ℕ) → take (length query / 4) (paste d 0 (query_of query)) ≡ query_of query
unfolding query_of
query_read d query = rw (paste-first d (query_of query)) (take_at (query_of query) (drop (length (query_of query)) d) (length query / 4) (length_floats (length query / 4) query 0))

pub call_read : (m s query call : List ℕ) (values : List Float) (k limit : ℕ) → values ≡ query_of query → k ≡ le_at 4 call 0 → limit ≡ le_at 4 call 4
    → call_of m s every values k limit lent_answers lent_work ≡ call_on m s query call
unfolding call_on k_of limit_of
call_read m s query call values k limit e f g = rw (e, f, g)

pub refused-answer : (f : Files) → ((admission f).refusal.number ≡ 0 → ⊥) → refusal_text (admission f).refusal ≡ list_answer f
unfolding list_answer answer_text list_refusal
refused-answer f h = rw (then_first (admission f).refusal (found f).refusal h) (sym (is-other (admission f).refusal _ _ h))

pub found-answer : (f : Files) → (admission f).refusal.number ≡ 0 → answer_text (found f).refusal (found f).report (found f).list ≡ list_answer f
unfolding list_answer list_refusal
found-answer f e = rw (then_rest (admission f).refusal (found f).refusal e)

pub output-is : (f : Files) (i : Result (Unit {0}) InputError) → input_of f ≡ i → text_of i (list_answer f) ≡ output f
unfolding output
output-is f i e = rw e
