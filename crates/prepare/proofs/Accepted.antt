-- What preparing refuses of an accepted library.
use mathlib.Core.Path.{◌≡◌, refl, ◌∙◌}
use mathlib.Core.Bool.{Bool, true, false, cond}
use mathlib.Core.List.{List}
use Prim.Native.Nat.{ℕ, ◌≤◌}
use lib.Dec.{leb, eqb}
use lib.ListN.{length}
use borrow.Author.Tests.{eqb-false}
use Rattle.le.proofs.Chain.{by, held}
use Rattle.config.specs.Refusal.{none, refused, refused_or}
use Rattle.format.specs.Fields.{dimensions_of, rows_of}
use Rattle.format.proofs.Refusals.{or_else_not}
use Rattle.cache_format.specs.Cache.{row_length, cache_between, cache_size, identity_length}
use Rattle.cache_format.specs.Sizing.{place_ok, options_ok, codes_ok, size_ok, bounds_number, limits_number, sizing_number}
use Rattle.cache_format.specs.declared.Options.{Options}
use Rattle.manifest.specs.Check.{manifest_number}
use Rattle.manifest.proofs.Passed.{other-room, manifest_not_5}
use Rattle.segment.specs.Check.{library_refusal}
use Rattle.segment.proofs.LibraryLaws.{library_accepted, accepted-number}
use Rattle.quantized_cache.specs.Size.{size_of, sizing_of}
use Rattle.encoded_rows.specs.Rows.{bad_record_refusal}
use Rattle.encoded_rows.proofs.Written.{all_good}
use Rattle.prepare.specs.Prepare.{store_refusal, accepted_refusal, prepare_refusal}
use Rattle.prepare.proofs.Stored.{accepted-manifest}

sizing_not_5 : (platform root limit block manifest rows dimensions : ℕ) → sizing_number platform root limit block manifest rows dimensions ≡ 5 → ⊥
unfolding sizing_number bounds_number limits_number
sizing_not_5 platform root limit block manifest rows dimensions h =
    let size = cache_size (identity_length platform root manifest) (length cache_between) rows dimensions in
    or_else_not (bounds_number platform root limit block (row_length dimensions)) (limits_number rows dimensions size limit) 5
    (λ k. let a = held (place_ok platform root) (eqb-false 10 5 refl) k in
    eqb-false 0 5 refl (held (options_ok limit block (row_length dimensions)) (eqb-false 7 5 refl) a.1).1)
    (λ k. let a = held (codes_ok rows dimensions) (eqb-false 8 5 refl) k in eqb-false 0 5 refl (held (size_ok size limit) (eqb-false 9 5 refl) a.1).1) h

size_not_5 : (m platform root : List ℕ) (o : Options) → sizing_of m platform root o ≡ 5 → ⊥
unfolding sizing_of
size_not_5 m platform root o h = sizing_not_5 (length platform) (length root) o.max_cache_bytes o.buffer_bytes (length m) (rows_of m) (dimensions_of m) h

-- after sizing it is refused by 11 alone
late-accepted : (m s : List ℕ) (size lent : ℕ) → bad_record_refusal m s ≡ none → store_refusal m s size lent ≡ cond (leb size lent) none (refused 11 0)
unfolding store_refusal
late-accepted m s size lent r = rw r (by (leb size lent) (λ e. rw e) (λ e. rw e))

late_not_5 : (t : Bool) → (cond t none (refused 11 0)).number ≡ 5 → ⊥
late_not_5 true h = eqb-false 0 5 refl h
late_not_5 false h = eqb-false 11 5 refl h

-- an accepted library, with a scratch of at least rows elements: sizing's tests, then a short cache
pub accepted-prepared : (m : List ℕ) (expected room : ℕ) (s : List ℕ) → (library_refusal m expected room s).number ≡ 0 → (other : ℕ) → rows_of m ≤ other
    → (platform root : List ℕ) (o : Options) (lent : ℕ)
    → prepare_refusal m expected other s platform root o lent ≡ refused_or (sizing_of m platform root o) (cond (leb (size_of m platform root) lent) none (refused 11 0))
unfolding accepted_refusal
accepted-prepared m expected room s h other f platform root o lent =
    let a = library_accepted m expected room s h in
    accepted-manifest m expected other s platform root o lent (other-room m expected room other (accepted-number a) f)
    ∙ rw (late-accepted m s (size_of m platform root) lent (all_good m s a.records))

-- and never, whatever CRC-32 is expected and whatever is lent, by 5
pub never_5 : (m : List ℕ) (expected room : ℕ) (s : List ℕ) → (library_refusal m expected room s).number ≡ 0 → (crc other : ℕ)
    → (platform root : List ℕ) (o : Options) (lent : ℕ) → (prepare_refusal m crc other s platform root o lent).number ≡ 5 → ⊥
unfolding prepare_refusal accepted_refusal
never_5 m expected room s h crc other platform root o lent e =
    let r = all_good m s (library_accepted m expected room s h).records in
    let f = rw (late-accepted m s (size_of m platform root) lent r) at e in
    by (eqb (manifest_number m crc other) 0)
    (λ y. by (eqb (sizing_of m platform root o) 0) (λ z. late_not_5 (leb (size_of m platform root) lent) (rw (y, z) at f)) (λ z. size_not_5 m platform root o (rw (y, z) at f)))
    (λ y. manifest_not_5 m crc other (rw y at f))
