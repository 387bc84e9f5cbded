-- What the list program prints (document 01, Contracts and proved cases: it "expects the manifest's own CRC and uses the default options. It
-- checks manifest and segments, opens, then searches all ids").
use Rattle.std.specs.Prelude.{◌≡◌, false, List, [], map, ℕ, eqb, replicate, Result, Ok, Err}
use Rattle.float.specs.Values.{plus_zero}
use Rattle.config.specs.Refusal.{Refusal, then_refusal, unless_refused}
use Rattle.format.specs.Fields.{stored_crc}
use Rattle.cache_format.specs.Sizing.{default_options}
use Rattle.manifest.specs.Check.{checked}
use Rattle.segment.specs.Check.{checked_library}
use Rattle.quantized_cache.specs.Open.{opened, opened_by}
use Rattle.quantized_cache.specs.Open.{Opened}
use Rattle.search_spec.specs.Lent.{Call, Answers, Work, answers_of, work_of, call_of, every}
use Rattle.search_spec.specs.Outcome.{Outcome}
use Rattle.search_spec.specs.declared.Place.{Place}
use Rattle.search_spec.specs.declared.Report.{Report}
use Rattle.search_spec.specs.Kept.{cached}
use Rattle.listing_text.specs.Listing.{too_long, bad_input, refusal_text, listing, line_of, most_places}
use Rattle.listing_input.specs.Files.{Files, bytes_of, input_of}
use Rattle.listing_input.specs.Parts.{query_of, k_of, limit_of, platform_of, root_part}
use Rattle.listing_input.specs.declared.InputError.{InputError}
use Rattle.listing_input.specs.declared.InputError.TheVariants.{TooLong, BadInput}

-- the three checks in their order, and the state of the cache where none refuses (readings R37: "The manifest is tested three times")
unfoldable pub admitted : List ℕ → List ℕ → List ℕ → List ℕ → List ℕ → Opened
admitted m s cache platform root =
    let crc = stored_crc m in
    opened_by m cache
    (then_refusal (checked m crc most_places).refusal
    (then_refusal (checked_library m crc most_places s).refusal (opened m crc most_places cache platform root default_options).refusal))

-- each slice lent to the search has as many elements as a library of such files has rows at most
unfoldable pub lent_answers : Answers
lent_answers =
    let zeros : List ℕ = replicate most_places 0 in
    answers_of zeros (replicate most_places plus_zero) zeros zeros zeros

unfoldable pub lent_work : Work
lent_work = work_of (replicate most_places 0) (replicate most_places 0) []

-- the search of all ids
unfoldable pub call_on : List ℕ → List ℕ → List ℕ → List ℕ → Call
call_on m s query call = call_of m s every (query_of query) (k_of call) (limit_of call) lent_answers lent_work

-- the admission of whole files, and the search's outcome
unfoldable pub admission : Files → Opened
admission f =
    let place = bytes_of f.place in
    admitted (bytes_of f.manifest) (bytes_of f.segments) (bytes_of f.cache) (platform_of place) (root_part place)

unfoldable pub found : Files → Outcome
found f = cached (admission f).state (bytes_of f.cache) (call_on (bytes_of f.manifest) (bytes_of f.segments) (bytes_of f.query) (bytes_of f.call))

unfoldable pub list_refusal : Files → Refusal
list_refusal f = then_refusal (admission f).refusal (found f).refusal

-- "A refusal prints `refused N at P`", else report and places
unfoldable pub answer_text : Refusal → Report → List Place → List ℕ
answer_text refusal report list = unless_refused refusal (listing report (map line_of list)) (refusal_text refusal)

unfoldable pub list_answer : Files → List ℕ
list_answer f = answer_text (list_refusal f) (found f).report (found f).list

-- "`too long` alone", "`bad input` alone", or what the whole files give
abbrev pub text_of : Result (Unit {0}) InputError → List ℕ → List ℕ
text_of (Err TooLong) whole = too_long
text_of (Err BadInput) whole = bad_input
text_of (Ok _) whole = whole

unfoldable pub output : Files → List ℕ
output f = text_of (input_of f) (list_answer f)

-- readings R37: "slices are sized so that 11 and 20 never show"
pub record NeverShort (f : Files) : Type 0 where
  pub no_11 : input_of f ≡ Ok tt → eqb (list_refusal f).number 11 ≡ false
  pub no_20 : input_of f ≡ Ok tt → eqb (list_refusal f).number 20 ≡ false
