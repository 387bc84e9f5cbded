-- Head, rows and CRC-32 stored one after the other are the cache.
use mathlib.Core.Path.{◌≡◌, sym, ap, ◌∙◌}
use mathlib.Core.List.{List, ◌++◌}
use Prim.Native.Nat.{ℕ, ◌+◌, ◌-◌, ◌*◌, ◌≤◌}
use native.Mathlib.Omega.{arith}
use lib.Dec.{leb}
use lib.ListN.{length, take, drop, length-append}
use lib.Seq.{take_at}
use borrow.Author.Tests.{leb-true}
use Rattle.le.specs.Le.{bytes, paste}
use Rattle.le.proofs.Chain.{held}
use Rattle.le.proofs.LeLaws.{length_bytes}
use Rattle.le.proofs.Pastes.{paste-first, paste-next}
use Rattle.crc32.specs.Crc.{crc32}
use Rattle.config.specs.Refusal.{Refusal, none, refused, refused_or}
use Rattle.config.specs.declared.Refused.{Refused}
use Rattle.config.specs.Told.{number_of, told}
use Rattle.config.proofs.Numbers.{some_number}
use Rattle.std.specs.Prelude.{Result}
use Rattle.std.specs.Result.{IsErrAnd}
use Rattle.std.proofs.lemmas.Result.{err_from_is_err_and}
use Rattle.config.proofs.Refusals.{not_zero, goes_on, stops, none-refused, is-other, Plain, plain_or}
use Rattle.quantization.specs.Encoder.{base_levels, midpoints}
use Rattle.format.specs.Fields.{rows_of, dimensions_of}
use Rattle.cache_format.specs.Cache.{identity, identity_length, cache_version, cache_between, cache_head, bytes_of_cache}
use Rattle.cache_format.proofs.Parts.{length_identity, length_head}
use Rattle.manifest.specs.Check.{manifest_number}
use Rattle.manifest.proofs.Passed.{accepted}
use Rattle.quantized_cache.specs.Size.{size_of, sizing_of}
use Rattle.cache_format.specs.declared.Options.{Options}
use Rattle.quantized_cache.proofs.Sizes.{Passed}
use Rattle.quantization.specs.View.{row_bytes}
use Rattle.encoded_rows.specs.Rows.{row_of, rows_bytes, lowest_bad, bad_record_refusal}
use Rattle.encoded_rows.proofs.Written.{length_own, none-bad, records-plain}
use Rattle.le.proofs.Joined.{length_joined}
use Rattle.prepare.specs.Prepare.{cache_room_number, store_refusal, accepted_refusal, prepare_refusal, cache_of, cache_after}

-- what is not refused after sizing
pub late-passed : (m s : List ℕ) (size room : ℕ) → (store_refusal m s size room).number ≡ 0 → (size ≤ room) × (lowest_bad m s ≡ rows_of m)
unfolding store_refusal
late-passed m s size room h =
    let a = none-refused (cache_room_number size room) (bad_record_refusal m s) h in
    (leb-true size room (held (leb size room) not_zero a.0).0, none-bad m s a.1)

-- the same, as the tests answer it
pub may_store : (m s : List ℕ) (size room : ℕ) → none ≡ store_refusal m s size room → (size ≤ room) × (lowest_bad m s ≡ rows_of m)
may_store m s size room e = late-passed m s size room (sym (ap (λ (r : Refusal). r.number) e))

pub length_rows : (m s : List ℕ) (n : ℕ) → length (rows_bytes base_levels midpoints m s n) ≡ n * (dimensions_of m + 16)
length_rows m s n = length_joined (λ r. row_bytes (row_of base_levels midpoints m s r)) (dimensions_of m + 16) (length_own base_levels midpoints m s) n

module _ (m s platform root : List ℕ) where
  abbrev head : List ℕ
  head = cache_head cache_version (identity platform root m) cache_between

  abbrev rows : List ℕ
  rows = rows_bytes base_levels midpoints m s (rows_of m)

  -- the place of the rows, and of the CRC-32
  pub record Stores (at size room : ℕ) : Type 0 where
    pub head-ends : length head ≡ at
    pub rows_end : at + length rows ≡ size - 4
    pub rows_fit : at + rows_of m * (dimensions_of m + 16) + 4 ≡ size
    pub fits : size ≤ room
    pub long : 20 ≤ size

  pub stores : (at size room : ℕ) → at ≡ 16 + identity_length (length platform) (length root) (length m) → size ≡ size_of m platform root → 66 ≤ length m → size ≤ room
      → Stores at size room
  stores at size room e z l f =
      let i = length_identity platform root m (omega (arith, l)) in
      let h = length_head cache_version (identity platform root m) cache_between in
      let r = length_rows m s (rows_of m) in
      record {
        head-ends = omega (arith, e, i, h);
        rows_end = omega (arith, e, z, r);
        rows_fit = omega (arith, e, z);
        fits = f;
        long = omega (arith, z);
      }

  pub stored : (d : List ℕ) (at size : ℕ) → Stores at size (length d)
      → paste (paste (paste d 0 head) at rows) (size - 4) (bytes 4 (crc32 (take (size - 4) (paste (paste d 0 head) at rows))))
      ≡ cache_of m s platform root ++ drop size d
  unfolding cache_of bytes_of_cache
  stored d at size p =
      let x = head ++ rows in
      let l : length x ≡ size - 4 = length-append head rows ∙ rw p.head-ends p.rows_end in
      let two = paste-next d 0 head rows at (let h = p.head-ends in omega (arith, h)) (let f = p.fits in let r = p.rows_fit in omega (arith, f, r)) in
      let front : take (size - 4) (paste d 0 x) ≡ x = rw (paste-first d x) (take_at x (drop (length x) d) (size - 4) l) in
      let y = bytes 4 (crc32 x) in
      let n : length (x ++ y) ≡ size = length-append x y ∙ rw (l, length_bytes 4 (crc32 x)) (let g = p.long in omega (arith, g)) in
      rw (two, front) (paste-next d 0 x y (size - 4) (let q = l in omega (arith, q)) (let f = p.fits in omega (arith, f)) ∙ paste-first d (x ++ y) ∙ ap (λ k. (x ++ y) ++ drop k d) n)

-- ---- the manifest's number, sizing's, and what comes after them
module _ (m : List ℕ) (expected scratch : ℕ) (s platform root : List ℕ) (o : Options) (room : ℕ) where
  pub refused-manifest : (manifest_number m expected scratch ≡ 0 → ⊥) → prepare_refusal m expected scratch s platform root o room ≡ refused (manifest_number m expected scratch) 0
  unfolding prepare_refusal
  refused-manifest h = stops (manifest_number m expected scratch) (accepted_refusal m s platform root o room) h

  pub accepted-manifest : manifest_number m expected scratch ≡ 0 → prepare_refusal m expected scratch s platform root o room ≡ accepted_refusal m s platform root o room
  unfolding prepare_refusal
  accepted-manifest h = goes_on (manifest_number m expected scratch) (accepted_refusal m s platform root o room) h

module _ (m s platform root : List ℕ) (o : Options) (room : ℕ) where
  pub refused-sizing : (sizing_of m platform root o ≡ 0 → ⊥) → accepted_refusal m s platform root o room ≡ refused (sizing_of m platform root o) 0
  unfolding accepted_refusal
  refused-sizing h = stops (sizing_of m platform root o) (store_refusal m s (size_of m platform root) room) h

  pub sized : sizing_of m platform root o ≡ 0 → accepted_refusal m s platform root o room ≡ store_refusal m s (size_of m platform root) room
  unfolding accepted_refusal
  sized h = goes_on (sizing_of m platform root o) (store_refusal m s (size_of m platform root) room) h

-- on a refusal the cache stays
pub refused-cache : (m s platform root d : List ℕ) (r : Refusal) → (r.number ≡ 0 → ⊥) → d ≡ cache_after m s platform root r d
unfolding cache_after
refused-cache m s platform root d r h = sym (is-other r (cache_of m s platform root ++ drop (size_of m platform root) d) d h)

-- the same at the exit of a `?`
pub cache_stays : {A : Type 0} (Q : Refused → Type 0) (r : Result A Refused) → IsErrAnd r Q → (m s platform root d : List ℕ) → d ≡ cache_after m s platform root (told r) d
cache_stays Q r h m s platform root d =
    let p = err_from_is_err_and r h in rw p.1 (refused-cache m s platform root d (refused (number_of p.0.number) p.0.place) (some_number p.0.number))

-- what is prepared has passed all tests
pub record Ready (m : List ℕ) (expected room : ℕ) (s platform root : List ℕ) (o : Options) (lent : ℕ) : Type 0 where
  pub number : manifest_number m expected room ≡ 0
  pub library : Passed m expected room platform root o
  pub fits : size_of m platform root ≤ lent
  pub records : lowest_bad m s ≡ rows_of m

pub ready : (m : List ℕ) (expected room : ℕ) (s platform root : List ℕ) (o : Options) (lent : ℕ)
    → (prepare_refusal m expected room s platform root o lent).number ≡ 0 → Ready m expected room s platform root o lent
unfolding prepare_refusal accepted_refusal
ready m expected room s platform root o lent h =
    let n = none-refused (manifest_number m expected room) (accepted_refusal m s platform root o lent) h in
    let k = none-refused (sizing_of m platform root o) (store_refusal m s (size_of m platform root) lent) n.1 in
    let l = late-passed m s (size_of m platform root) lent k.1 in
    record { number = n.0; library = record { manifest = (accepted m expected room n.0).0; sizing = k.0 }; fits = l.0; records = l.1 }

-- number 0 is no refusal
late-plain : (m s : List ℕ) (size room : ℕ) → Plain (store_refusal m s size room)
unfolding store_refusal
late-plain m s size room = plain_or (cache_room_number size room) (bad_record_refusal m s) (records-plain m s)

pub prepared-none : (m : List ℕ) (expected room : ℕ) (s platform root : List ℕ) (o : Options) (lent : ℕ) → Plain (prepare_refusal m expected room s platform root o lent)
unfolding prepare_refusal accepted_refusal
prepared-none m expected room s platform root o lent =
    plain_or (manifest_number m expected room) (refused_or (sizing_of m platform root o) (store_refusal m s (size_of m platform root) lent))
    (plain_or (sizing_of m platform root o) (store_refusal m s (size_of m platform root) lent) (late-plain m s (size_of m platform root) lent))
