-- The sum of n bytes is 8 * n steps on one number, which the tables do a byte of it at a time.
use mathlib.Core.Path.{◌≡◌, sym, ap, ap₂, ◌∙◌}
use mathlib.Core.List.{List, [], ◌∷◌, ◌++◌}
use Prim.Native.Nat.{ℕ, zero, suc, ◌+◌, ◌*◌, ◌-◌, ◌/◌, ◌%◌, ◌^◌, ◌<◌, ◌≤◌}
use native.Mathlib.Nat.{zero-add, add_comm, mul-zero, mul-suc}
use native.Mathlib.Omega.{arith}
use lib.Bits.{bit_xor, xor_comm, xor_zero_r, xor_block, xor_shifted}
use lib.Pow.{shr-shr}
use lib.ListN.{length, get_or, set, take, drop, take-append-drop, length-drop, length-take, length-append}
use lib.Seq.{drop-drop, length-take-le, take_all, take_at, ext_get_or}
use Rattle.std.proofs.lemmas.List.{get_or-take}
use Rattle.std.specs.Simd.{first_chunks}
use Rattle.crc32.specs.Crc.{steps, update}
use Rattle.crc32.specs.Tables.{entries, slot, slots, Filled}
use Rattle.le.specs.Le.{le, le_at}
use Rattle.le.proofs.LeLaws.{AllBytes, join, take_bytes, drop_bytes}
use Rattle.crc32.proofs.Tab.{at, length_tab, filled_more}
use Rattle.crc32.proofs.Xor.{xor_assoc}
use Rattle.crc32.proofs.Linear.{steps_xor, steps_add, steps_shift, apart, by_table, crc-append}

-- eight steps and n more: the low byte goes through all of them, the rest through n
pub spread : (p n x m : ℕ) → p ≡ 8 + n → x < 256 → steps p (x + 256 * m) ≡ bit_xor (steps p x) (steps n m)
spread p n x m e h =
    rw e
    (ap (steps (8 + n)) (apart x m h) ∙ steps_xor (8 + n) x (256 * m)
    ∙ ap (bit_xor (steps (8 + n) x)) (steps_add 8 n (256 * m) ∙ ap (steps n) (steps_shift m)))

-- the sum of some bytes: all the steps on one number
pub crc-le : (s : List ℕ) (c : ℕ) → AllBytes s → update c s ≡ steps (8 * length s) (bit_xor c (le s))
unfolding update steps le
crc-le [] c h = sym (xor_zero_r c)
crc-le (x ∷ s) c h =
    let e : 8 * suc (length s) ≡ 8 + 8 * length s = omega arith in
    let g : steps 8 (bit_xor c (x + 256 * le s)) ≡ bit_xor (steps 8 (bit_xor c x)) (le s) =
    rw (apart x (le s) h.0, ← xor_assoc c x (256 * le s), steps_xor 8 (bit_xor c x) (256 * le s), steps_shift (le s)) in
    crc-le s (steps 8 (bit_xor c x)) h.1 ∙ sym (rw (e, steps_add 8 (8 * length s) (bit_xor c (x + 256 * le s)), g))

-- the sum of eight bytes: it goes into the first four
pub crc_word : (w : List ℕ) → length w ≡ 8 → AllBytes w → (c lo hi : ℕ) → c < 2 ^ 32 → lo < 2 ^ 32 → lo ≡ le_at 4 w 0 → hi ≡ le_at 4 w 4
    → update c w ≡ steps 64 (bit_xor c lo + 4294967296 * hi)
crc_word w e b c lo hi hc h p q =
    let t : le_at 8 w 0 ≡ le w = ap le (take_all 8 w (omega arith)) in
    let j : le w ≡ hi * 2 ^ 32 + lo = omega (arith, join 4 4 w 0 (omega arith), t) in
    let x : bit_xor c (le w) ≡ bit_xor c lo + 4294967296 * hi = ap₂ bit_xor (sym (zero-add c)) j ∙ xor_block 32 0 hi c lo hc h ∙ omega arith in
    crc-le w c b ∙ ap₂ steps (ap (λ n. 8 * n) e) x

-- chunk i of n elements
pub chunk_at : (n k i : ℕ) (s d : List ℕ) → i < k → get_or (first_chunks n k s) i d ≡ take n (drop (n * i) s)
chunk_at n zero i s d h = absurd (omega arith)
chunk_at n (suc k) zero s d h = rw mul-zero
chunk_at n (suc k) (suc i) s d h = rw (mul-suc n i, add_comm (n * i) n) (chunk_at n k i (drop n s) d (omega arith) ∙ ap (take n) (drop-drop (n * i) n s))

-- one turn of a loop over the words of eight bytes, and its end
module _ (s : List ℕ) (ws : List (List ℕ)) (front : ws ≡ first_chunks 8 (length s / 8) s) (c n : ℕ) where
  pub word_turn : (d : List ℕ) → AllBytes s → {lo hi r : ℕ} → length ws ≡ length s / 8 → n < length ws → c < 2 ^ 32 → lo < 2 ^ 32
      → lo ≡ le_at 4 (get_or ws n d) 0 → hi ≡ le_at 4 (get_or ws n d) 4 → r ≡ steps 64 (bit_xor c lo + 4294967296 * hi)
      → update c (drop (8 * n) s) ≡ update r (drop (8 * (n + 1)) s)
  word_turn d b {lo} {hi} {r} k h hc hl p q e =
      let at = drop (8 * n) s in
      let w : get_or ws n d ≡ take 8 at = rw front (chunk_at 8 (length s / 8) n s d (omega arith)) in
      let l : length (take 8 at) ≡ 8 = length-take-le 8 at (simp length-drop (omega arith)) in
      let m : 8 * (n + 1) ≡ 8 * n + 8 = omega arith in
      let f : update c (take 8 at) ≡ r = crc_word (take 8 at) l (take_bytes 8 at (drop_bytes (8 * n) s b)) c lo hi hc hl (rw w at p) (rw w at q) ∙ sym e in
      ap (update c) (sym (take-append-drop 8 at)) ∙ crc-append c (take 8 at) (drop 8 at) ∙ ap₂ update f (drop-drop 8 (8 * n) s ∙ ap (λ i. drop i s) (sym m))

  pub word_end : {rest : List ℕ} → length ws ≡ length s / 8 → rest ≡ drop (length s / 8 * 8) s → n ≤ length ws → length ws ≤ n
      → update c rest ≡ update c (drop (8 * n) s)
  word_end {rest} k e h g = let m : length s / 8 * 8 ≡ 8 * n = omega arith in rw (e, m)

-- entry k of table j
pub slot_at : (j k : ℕ) → k < 256 → slot (k + 256 * j) ≡ steps (8 + 8 * j) k
unfolding slot
slot_at j k h =
    let q : (k + 256 * j) / 256 ≡ j = omega arith in
    let r : (k + 256 * j) % 256 ≡ k = omega arith in
    rw (q, r)

-- each table from the one before
pub slot_next : (i : ℕ) → 256 ≤ i → slot i ≡ steps 8 (slot (i - 256))
unfolding slot
slot_next i h =
    let q : 8 + 8 * (i / 256) ≡ 8 + 8 * ((i - 256) / 256) + 8 = omega arith in
    let r : i % 256 ≡ (i - 256) % 256 = omega arith in
    rw (q, r) (steps_add (8 + 8 * ((i - 256) / 256)) 8 ((i - 256) % 256))

slots_at : (i : ℕ) → i < 2048 → get_or slots i 0 ≡ slot i
unfolding slots
slots_at i h = at slot 2048 i h

pub in_slots : (t : List ℕ) → t ≡ slots → (i p j k : ℕ) → k < 256 → j < 8 → i ≡ k + 256 * j → p ≡ 8 + 8 * j → get_or t i 0 ≡ steps p k
in_slots t e i p j k hk hj h hp = rw (e, h, hp) (slots_at (k + 256 * j) (omega arith) ∙ slot_at j k hk)

-- the four bytes of a word
byte_off : (x : ℕ) → x ≡ x % 256 + 256 * (x / 256)
byte_off x = omega arith

bytes_of : (a : ℕ) → a < 2 ^ 32 → a ≡ a % 256 + 256 * (a / 256 % 256 + 256 * (a / 65536 % 256 + 256 * (a / 16777216 % 256)))
bytes_of a h =
    let p : a / 256 / 256 ≡ a / 65536 = shr-shr a 8 8 in
    let q : a / 65536 / 256 ≡ a / 16777216 = shr-shr a 16 8 in
    let r : a / 16777216 ≡ a / 16777216 % 256 = omega arith in
    let u : a / 65536 ≡ a / 65536 % 256 + 256 * (a / 16777216 % 256) = byte_off (a / 65536) ∙ ap (λ y. a / 65536 % 256 + 256 * y) (q ∙ r) in
    byte_off a ∙ ap (λ y. a % 256 + 256 * y) (byte_off (a / 256) ∙ ap (λ y. a / 256 % 256 + 256 * y) (p ∙ u))

-- the code's four entries
pub four_bytes : (t : List ℕ) → t ≡ slots → (a j i0 i1 i2 i3 : ℕ) → j ≤ 4 → a < 2 ^ 32
    → i0 ≡ a % 256 + 256 * (j + 3) → i1 ≡ a / 256 % 256 + 256 * (j + 2) → i2 ≡ a / 65536 % 256 + 256 * (j + 1) → i3 ≡ a / 16777216 % 256 + 256 * j
    → bit_xor (bit_xor (bit_xor (get_or t i0 0) (get_or t i1 0)) (get_or t i2 0)) (get_or t i3 0) ≡ steps (32 + 8 * j) a
four_bytes t e a j i0 i1 i2 i3 hj ha h0 h1 h2 h3 =
    let x0 = a % 256 in
    let x1 = a / 256 % 256 in
    let x2 = a / 65536 % 256 in
    let x3 = a / 16777216 % 256 in
    let w : a ≡ x0 + 256 * (x1 + 256 * (x2 + 256 * x3)) = bytes_of a ha in
    rw (
      in_slots t e i0 (32 + 8 * j) (j + 3) x0 (omega arith) (omega arith) h0 (omega arith),
      in_slots t e i1 (24 + 8 * j) (j + 2) x1 (omega arith) (omega arith) h1 (omega arith),
      in_slots t e i2 (16 + 8 * j) (j + 1) x2 (omega arith) (omega arith) h2 (omega arith),
      in_slots t e i3 (8 + 8 * j) j x3 (omega arith) (omega arith) h3 (omega arith),
    )
    (sym (ap (steps (32 + 8 * j)) w
    ∙ spread (32 + 8 * j) (24 + 8 * j) x0 (x1 + 256 * (x2 + 256 * x3)) (omega arith) (omega arith)
    ∙ rw (spread (24 + 8 * j) (16 + 8 * j) x1 (x2 + 256 * x3) (omega arith) (omega arith), spread (16 + 8 * j) (8 + 8 * j) x2 x3 (omega arith) (omega arith)) (simp xor_assoc)))

-- two words: the first goes through all 64 steps, the second through 32
pub halves : (a b : ℕ) → a < 2 ^ 32 → bit_xor (steps 64 a) (steps 32 b) ≡ steps 64 (a + 4294967296 * b)
halves a b h =
    let e : a + 4294967296 * b ≡ b * 2 ^ 32 + a = omega arith in
    let f : b * 2 ^ 32 ≡ 256 * (256 * (256 * (256 * b))) = omega arith in
    let g : steps 64 (b * 2 ^ 32) ≡ steps 32 b =
    ap (steps 64) f ∙ steps_add 8 56 _ ∙ ap (steps 56) (steps_shift _) ∙ steps_add 8 48 _ ∙ ap (steps 48) (steps_shift _)
    ∙ steps_add 8 40 _ ∙ ap (steps 40) (steps_shift _) ∙ steps_add 8 32 _ ∙ ap (steps 32) (steps_shift _) in
    sym (ap (steps 64) (e ∙ sym (xor_shifted b 32 a h)) ∙ steps_xor 64 (b * 2 ^ 32) a ∙ xor_comm (steps 64 (b * 2 ^ 32)) (steps 64 a) ∙ ap (bit_xor (steps 64 a)) g)

-- ---- the first table

slot_low : (i : ℕ) → i < 256 → slot i ≡ steps 8 i
unfolding slot
slot_low i h =
    let q : i / 256 ≡ 0 = omega arith in
    let r : i % 256 ≡ i = omega arith in
    rw (q, r)

entries_at : (i : ℕ) → i < 256 → get_or entries i 0 ≡ steps 8 i
unfolding entries
entries_at i h = at (steps 8) 256 i h

length_entries : length entries ≡ 256
unfolding entries
length_entries = length_tab (steps 8) 0 256

length_slots : length slots ≡ 2048
unfolding slots
length_slots = length_tab slot 0 2048

-- both tables begin with the entries
pub begins_entries : {t : List ℕ} → t ≡ entries → take 256 t ≡ entries
begins_entries {t} e = rw e (take_all 256 entries (omega (arith, length_entries)))

pub begins_slots : {t : List ℕ} → t ≡ slots → take 256 t ≡ entries
begins_slots {t} e =
    let n = length_slots in
    let m = length_entries in
    let k : length (take 256 slots) ≡ 256 = length-take-le 256 slots (omega arith) in
    rw e
    (ext_get_or 0 (take 256 slots) entries (k ∙ sym m)
    (λ i h. let l : i < 256 = omega arith in get_or-take 256 slots i 0 l ∙ slots_at i (omega arith) ∙ slot_low i l ∙ sym (entries_at i l)))

-- and is that long, and says what eight steps are
pub first_long : (t : List ℕ) → take 256 t ≡ entries → 256 ≤ length t
first_long t e = omega (arith, length-take 256 t, ap length e, length_entries)

pub first_at : (t : List ℕ) (k : ℕ) → take 256 t ≡ entries → k < 256 → get_or t k 0 ≡ steps 8 k
first_at t k e h = sym (get_or-take 256 t k 0 h) ∙ ap (λ l. get_or l k 0) e ∙ entries_at k h

pub first_look : (t : List ℕ) (c : ℕ) → take 256 t ≡ entries → bit_xor (get_or t (c % 256) 0) (c / 256) ≡ steps 8 c
first_look t c e = ap (λ n. bit_xor n (c / 256)) (first_at t (c % 256) e (omega arith)) ∙ sym (by_table c)

-- ---- the tables, made

pub filled_first : (t : List ℕ) → length t ≡ 2048 → take 256 t ≡ entries → Filled slot 2048 t 256
filled_first t n e = record { size = n; upto = λ k h. first_at t k e h ∙ sym (slot_low k h) }

pub filled_copied : (a t : List ℕ) → a ≡ entries → length t ≡ 2048 → Filled slot 2048 (a ++ drop 256 t) 256
filled_copied a t e n =
    let m : length a ≡ 256 = ap length e ∙ length_entries in
    filled_first (a ++ drop 256 t) (simp (length-append, length-drop) (omega arith)) (take_at a (drop 256 t) 256 m ∙ e)

pub filled_next : {t : List ℕ} {i v : ℕ} → Filled slot 2048 t i → 256 ≤ i → i < 2048 → v ≡ steps 8 (get_or t (i - 256) 0) → Filled slot 2048 (set t i v) (i + 1)
filled_next {t} {i} {v} f h l e = filled_more f l (e ∙ ap (steps 8) (f.upto (i - 256) (omega arith)) ∙ sym (slot_next i h))
