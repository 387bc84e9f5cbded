-- What preparing stores is opened: its length and head, each of its rows, and its CRC-32 pass.
use mathlib.Core.Path.{◌≡◌, refl, sym, ap, ◌∙◌}
use mathlib.Core.Bool.{true}
use mathlib.Core.List.{List, [], ◌∷◌, ◌++◌, map, append_assoc}
use Prim.Native.Nat.{ℕ, zero, suc, ◌+◌, ◌-◌, ◌*◌, ◌≤◌, ◌<◌}
use native.Mathlib.Nat.{zero-mul, suc-mul}
use native.Mathlib.Numerals.{add-one}
use native.Mathlib.Omega.{arith}
use mir.Syntax.{w8, w64}
use mir.Val.{of_z}
use lib.IntN.{ℤ, pos, negsuc, nat_abs}
use lib.Ieee.{binary64, to_bits}
use lib.ListN.{length, take, drop, length-append}
use lib.Seq.{take_at}
use borrow.Author.Tests.{eq-eqb}
use lib.Dec.{lit≤}
use Rattle.le.specs.Le.{bytes, joined}
use Rattle.le.proofs.LeLaws.{AllBytes, length_bytes, bytes-all, append_bytes, take_bytes, drop_bytes}
use Rattle.crc32.specs.Crc.{crc32}
use Rattle.crc32.proofs.Fits.{ends_in_crc_lem}
use Rattle.config.specs.Refusal.{none}
use Rattle.config.proofs.Refusals.{goes_on, is_done}
use Rattle.config.specs.Vector.{floats_at}
use Rattle.config.proofs.Vectors.{length_floats}
use Rattle.codes.specs.Codes.{within}
use Rattle.quantization.specs.View.{row_bytes, row_at, valid_row}
use Rattle.quantization.specs.Encoder.{base_levels, encode, midpoints}
use Rattle.quantization.proofs.Codes.{within-cons}
use Rattle.quantization.proofs.Encoded.{written_reads, codes-within, base, base-count, base-table}
use Rattle.format.specs.Fields.{dimensions_of, rows_of, metric_at}
use Rattle.format.proofs.Heads.{bounds}
use Rattle.format.proofs.First.{all_pass}
use Rattle.segment.specs.Record.{record_at}
use Rattle.cache_format.specs.Cache.{cache_magic, counted, inner, identity, row_length, cache_version, cache_between, head_rest, cache_head, bytes_of_cache}
use Rattle.cache_format.specs.declared.Options.{Options}
use Rattle.cache_format.proofs.Parts.{length_head, length_cache, length_identity, magic-bytes}
use Rattle.cache_format.proofs.Opens.{head-opens}
use Rattle.manifest.specs.Check.{manifest_number}
use Rattle.manifest.proofs.Passed.{other-room}
use Rattle.quantized_cache.specs.Size.{size_of, size_number}
use Rattle.quantized_cache.specs.Open.{row_start, cached_at, cached_ok, bad_row, content_refusal, open_number, open_refusal, state_of, opened_by, opened}
use Rattle.encoded_rows.specs.Rows.{row_of, rows_bytes, lowest_bad}
use Rattle.prepare.specs.Prepare.{prepare_refusal, cache_of, cache_after}
use Rattle.quantized_cache.proofs.Sizes.{sizing_in}
use Rattle.quantized_cache.proofs.Opens.{lies, first-start}
use Rattle.encoded_rows.proofs.Written.{rows-valid}
use Rattle.le.proofs.Joined.{rest_of}
use Rattle.prepare.proofs.Stored.{length_rows, ready}

-- ---- the rows

module _ (m s : List ℕ) where
  -- a row between other bytes is read as the encoder's own
  row_read : (r : ℕ) (p q : List ℕ) → dimensions_of m ≤ 4096
      → row_at (dimensions_of m) (p ++ row_bytes (row_of base_levels midpoints m s r) ++ q) (length p) ≡ row_of base_levels midpoints m s r
  row_read r p q h =
      let v = floats_at (dimensions_of m) s (record_at m r + 12) in
      let l = length_floats (dimensions_of m) s (record_at m r + 12) in
      ap (λ (n : ℕ). row_at n (p ++ row_bytes (encode base_levels midpoints v) ++ q) (length p)) (sym l) ∙ written_reads base_levels midpoints base-count v (lit≤ tt) p q (rw l h)

  -- where row n of a cache with a front and a CRC-32 of 4 bytes starts
  start_is : (front n : ℕ) → n ≤ rows_of m
      → row_start (front + rows_of m * row_length (dimensions_of m) + 4) (rows_of m) (dimensions_of m) n ≡ front + n * row_length (dimensions_of m)
  start_is front zero h =
      let z = zero-mul (row_length (dimensions_of m)) in
      sym (first-start (front + rows_of m * row_length (dimensions_of m) + 4) (rows_of m) (dimensions_of m)) ∙ omega (arith, z)
  start_is front (suc n) h =
      let size = front + rows_of m * row_length (dimensions_of m) + 4 in
      let i = start_is front n (omega arith) in
      let k = (lies size (rows_of m) (dimensions_of m) n (omega arith) (omega arith)).next in
      let j = suc-mul n (row_length (dimensions_of m)) in
      let f : row_start size (rows_of m) (dimensions_of m) (n + 1) ≡ front + suc n * row_length (dimensions_of m) = omega (arith, i, j, k) in
      rw (add-one n) at f

  -- a front, the rows and 4 bytes: row n is the encoder's own
  rows_read : (front t : List ℕ) → length t ≡ 4 → dimensions_of m ≤ 4096 → (n : ℕ) → n < rows_of m
      → cached_at (rows_of m) (dimensions_of m) (front ++ rows_bytes base_levels midpoints m s (rows_of m) ++ t) n ≡ row_of base_levels midpoints m s n
  rows_read front t e h n i =
      let cache = front ++ rows_bytes base_levels midpoints m s (rows_of m) ++ t in
      let k = length_rows m s (rows_of m) in
      let l : length cache ≡ length front + rows_of m * row_length (dimensions_of m) + 4 = simp length-append (omega (arith, k, e)) in
      let r = rest_of (λ j. row_bytes (row_of base_levels midpoints m s j)) (rows_of m) n i in
      let p = front ++ rows_bytes base_levels midpoints m s n in
      let c : cache ≡ p ++ row_bytes (row_of base_levels midpoints m s n) ++ (r.rest ++ t) = rw r.is (simp append_assoc) in
      let a : row_start (length cache) (rows_of m) (dimensions_of m) n ≡ length p =
      ap (λ (z : ℕ). row_start z (rows_of m) (dimensions_of m) n) l ∙ start_is (length front) n (omega (arith, i))
      ∙ sym (length-append front (rows_bytes base_levels midpoints m s n) ∙ ap (λ (z : ℕ). length front + z) (length_rows m s n)) in
      ap (λ (z : ℕ). row_at (dimensions_of m) cache z) a ∙ ap (λ (x : List ℕ). row_at (dimensions_of m) x (length p)) c ∙ row_read n p (r.rest ++ t) h

  -- and where no record is bad, every row is valid
  rows_hold : (front t : List ℕ) → length t ≡ 4 → dimensions_of m ≤ 4096 → lowest_bad m s ≡ rows_of m
      → bad_row base_levels (metric_at m) (rows_of m) (dimensions_of m) (front ++ rows_bytes base_levels midpoints m s (rows_of m) ++ t) ≡ rows_of m
  unfolding cached_ok
  rows_hold front t e h b =
      all_pass (cached_ok base_levels (metric_at m) (rows_of m) (dimensions_of m) (front ++ rows_bytes base_levels midpoints m s (rows_of m) ++ t)) (rows_of m)
      (λ n i. ap (valid_row base_levels (metric_at m)) (rows_read front t e h n i) ∙ rows-valid m s base base-table b n i)

-- ---- all are bytes

code_byte : (z : ℤ) → nat_abs z ≤ 127 → of_z w8 z < 256
code_byte (pos n) h = omega arith
code_byte (negsuc n) h = omega arith

codes-bytes : (cs : List ℤ) → within base_levels cs ≡ true → AllBytes (map (of_z w8) cs)
codes-bytes [] h = tt
codes-bytes (z ∷ cs) h = let k = within-cons 127 z cs h in (code_byte z k.0, codes-bytes cs k.1)

row-bytes : (m s : List ℕ) (r : ℕ) → AllBytes (row_bytes (row_of base_levels midpoints m s r))
unfolding row_bytes
row-bytes m s r =
    let v = floats_at (dimensions_of m) s (record_at m r + 12) in
    let e = encode base_levels midpoints v in
    let a = bytes-all 8 (to_bits binary64 e.scale) in
    let b = bytes-all 8 (of_z w64 e.norm) in
    append_bytes (bytes 8 (to_bits binary64 e.scale) ++ bytes 8 (of_z w64 e.norm)) (map (of_z w8) e.codes) (append_bytes (bytes 8 (to_bits binary64 e.scale)) (bytes 8 (of_z w64 e.norm)) a b)
    (codes-bytes e.codes (codes-within base_levels midpoints base-count v))

rows-bytes : (m s : List ℕ) (n : ℕ) → AllBytes (rows_bytes base_levels midpoints m s n)
unfolding joined
rows-bytes m s zero = tt
rows-bytes m s (suc n) = append_bytes (rows_bytes base_levels midpoints m s n) (row_bytes (row_of base_levels midpoints m s n)) (rows-bytes m s n) (row-bytes m s n)

counted-bytes : (s : List ℕ) → AllBytes s → AllBytes (counted s)
unfolding counted
counted-bytes s h = append_bytes (bytes 4 (length s)) s (bytes-all 4 (length s)) h

identity-bytes : (platform root m : List ℕ) → AllBytes platform → AllBytes root → AllBytes m → AllBytes (identity platform root m)
unfolding identity
identity-bytes platform root m p r h =
    append_bytes (counted platform ++ counted root) (inner m) (append_bytes (counted platform) (counted root) (counted-bytes platform p) (counted-bytes root r))
    (take_bytes (length m - 12) (drop 8 m) (drop_bytes 8 m h))

magic-all : AllBytes cache_magic
magic-all = rw magic-bytes at (bytes-all 8 0x3130_3851_5343_4556)

head_bytes_lem : (version : ℕ) (i between : List ℕ) → AllBytes i → AllBytes between → AllBytes (cache_head version i between)
unfolding cache_head head_rest
head_bytes_lem version i between h k =
    append_bytes cache_magic (bytes 4 version ++ counted i ++ between) magic-all
    (append_bytes (bytes 4 version ++ counted i) between (append_bytes (bytes 4 version) (counted i) (bytes-all 4 version) (counted-bytes i h)) k)

-- ---- the whole

-- a prepared library, with the bytes before its cache's CRC-32
module _ (m : List ℕ) (expected room : ℕ) (s platform root : List ℕ) (o : Options) (lent : ℕ)
    (h : (prepare_refusal m expected room s platform root o lent).number ≡ 0) where
  abbrev content : List ℕ
  content = cache_head cache_version (identity platform root m) cache_between ++ rows_bytes base_levels midpoints m s (rows_of m)

  parts : cache_of m s platform root ≡ content ++ bytes 4 (crc32 content)
  unfolding cache_of bytes_of_cache
  parts = refl

  -- the cache has the size
  pub cache-long : length (cache_of m s platform root) ≡ size_of m platform root
  unfolding cache_of
  cache-long =
      let b = bounds m (ready m expected room s platform root o lent h).library.manifest.head in
      let l = length_identity platform root m (omega (arith, b.long)) in
      let k = length_rows m s (rows_of m) in
      let c = length_cache cache_version (identity platform root m) cache_between (rows_bytes base_levels midpoints m s (rows_of m)) in
      omega (arith, l, k, c)

  -- whatever scratch of at least rows elements is lent
  sized_again : (other : ℕ) → rows_of m ≤ other → size_number m expected other platform root o ≡ 0
  unfolding size_number
  sized_again other f =
      let r = ready m expected room s platform root o lent h in
      rw (eq-eqb (manifest_number m expected other) 0 (other-room m expected room other r.number f)) r.library.sizing

  number : (other : ℕ) → rows_of m ≤ other → open_number m expected other (cache_of m s platform root) platform root o ≡ 0
  unfolding open_number
  number other f =
      let r = ready m expected room s platform root o lent h in
      let b = bounds m r.library.manifest.head in
      let z = (sizing_in m platform root o r.library.sizing).bounds in
      let i = identity platform root m in
      let rows = rows_bytes base_levels midpoints m s (rows_of m) in
      let l = length_identity platform root m (omega (arith, b.long)) in
      let ends = 16 + length i + length cache_between in
      let front : take ends (cache_of m s platform root) ≡ cache_head cache_version i cache_between =
      ap (take ends) (parts ∙ append_assoc (cache_head cache_version i cache_between) rows (bytes 4 (crc32 content)))
      ∙ take_at (cache_head cache_version i cache_between) (rows ++ bytes 4 (crc32 content)) ends (length_head cache_version i cache_between) in
      rw (eq-eqb (size_number m expected other platform root o) 0 (sized_again other f))
      (head-opens cache_version (size_of m platform root) i cache_between (cache_of m s platform root) (omega arith) (omega (arith, l, z.platform-short, z.root-short, b.short)) (omega (arith, l)) cache-long front)

  rows_pass : AllBytes content → content_refusal base_levels (metric_at m) (rows_of m) (dimensions_of m) (cache_of m s platform root) ≡ none
  unfolding content_refusal
  rows_pass a =
      let r = ready m expected room s platform root o lent h in
      let b = bounds m r.library.manifest.head in
      let t = bytes 4 (crc32 content) in
      let v = rows_hold m s (cache_head cache_version (identity platform root m) cache_between) t (length_bytes 4 (crc32 content)) b.high r.records in
      rw (parts, eq-eqb (bad_row base_levels (metric_at m) (rows_of m) (dimensions_of m) (content ++ t)) (rows_of m) v, ends_in_crc_lem content a)

  -- document 01, Contracts: against "an opener refusing every cache" and "preparation that stores nothing"
  pub prepared-opens : AllBytes m → AllBytes platform → AllBytes root → (other : ℕ) → rows_of m ≤ other
      → open_refusal m expected other (cache_of m s platform root) platform root o ≡ none
  unfolding open_refusal
  prepared-opens a p r other f =
      let i = identity platform root m in
      let b = append_bytes (cache_head cache_version i cache_between) (rows_bytes base_levels midpoints m s (rows_of m)) (head_bytes_lem cache_version i cache_between (identity-bytes platform root m p r a) tt) (rows-bytes m s (rows_of m)) in
      goes_on (open_number m expected other (cache_of m s platform root) platform root o) (content_refusal base_levels (metric_at m) (rows_of m) (dimensions_of m) (cache_of m s platform root)) (number other f) ∙ rows_pass b

  -- the slice of the cache's size, as preparing leaves it
  pub prepared_slice : (d : List ℕ) → take (size_of m platform root) (cache_after m s platform root (prepare_refusal m expected room s platform root o lent) d) ≡ cache_of m s platform root
  unfolding cache_after
  prepared_slice d =
      rw (is_done (prepare_refusal m expected room s platform root o lent) (cache_of m s platform root ++ drop (size_of m platform root) d) d h)
      (take_at (cache_of m s platform root) (drop (size_of m platform root) d) (size_of m platform root) cache-long)

  -- and its rows are the encoder's own
  pub prepared-rows : (n : ℕ) → n < rows_of m
      → cached_at (rows_of m) (dimensions_of m) (cache_of m s platform root) n ≡ row_of base_levels midpoints m s n
  prepared-rows n i =
      let b = bounds m (ready m expected room s platform root o lent h).library.manifest.head in
      rw parts (rows_read m s (cache_head cache_version (identity platform root m) cache_between) (bytes 4 (crc32 content)) (length_bytes 4 (crc32 content)) b.high n i)

  -- all of it, from the entries' outcomes: what preparing leaves of a lent cache, cut to its size, is opened, with the encoder's own rows
  pub prepared-opened : AllBytes m → AllBytes platform → AllBytes root → (other : ℕ) → rows_of m ≤ other → (d : List ℕ)
      → let cache = take (size_of m platform root) (cache_after m s platform root (prepare_refusal m expected room s platform root o lent) d) in
      (opened m expected other cache platform root o ≡ record { refusal = none; state = state_of m cache })
      × ((n : ℕ) → n < rows_of m → cached_at (rows_of m) (dimensions_of m) cache n ≡ row_of base_levels midpoints m s n)
  unfolding opened_by
  prepared-opened a p r other f d = rw (prepared_slice d, prepared-opens a p r other f) (refl, prepared-rows)

  -- and each of its rows passes the row test
  pub prepared-valid : (d : List ℕ)
      → let cache = take (size_of m platform root) (cache_after m s platform root (prepare_refusal m expected room s platform root o lent) d) in
      (length cache ≡ size_of m platform root) × ((n : ℕ) → n < rows_of m → cached_ok base_levels (metric_at m) (rows_of m) (dimensions_of m) cache n ≡ true)
  unfolding cached_ok
  prepared-valid d =
      rw (prepared_slice d)
      (cache-long, λ n i. ap (valid_row base_levels (metric_at m)) (prepared-rows n i) ∙ rows-valid m s base base-table (ready m expected room s platform root o lent h).records n i)
