-- The lines of a listing: one more line, how long they are, and those of answer slices into which a list was put.
use mathlib.Core.Path.{◌≡◌, refl, sym, ap, ◌∙◌}
use mathlib.Core.Bool.{Bool, true, false}
use mathlib.Core.List.{List, [], ◌∷◌, ◌++◌, map, append-nil, append_assoc}
use mathlib.Core.Logic.{⊎_elim}
use Prim.Native.Nat.{ℕ, zero, suc, ◌+◌, ◌*◌, ◌^◌, ◌<◌, ◌≤◌}
use native.Mathlib.Nat.{zero-add, mul-suc}
use native.Mathlib.Numerals.{add-one}
use native.Mathlib.Omega.{arith}
use lib.Ieee.{Float}
use lib.ListN.{length, get_or, length-append}
use Rattle.std.specs.Int.{from_bool}
use Rattle.le.specs.Le.{paste}
use Rattle.le.proofs.Chain.{lt_or_le}
use Rattle.le.proofs.Pastes.{paste-first}
use Rattle.text.specs.Digits.{decimal_in, decimal}
use Rattle.text.proofs.Decimal.{length_decimal, length_u64}
use Rattle.text.proofs.Hex.{length_hex16}
use Rattle.config.specs.Refusal.{Refusal}
use Rattle.search_spec.specs.declared.Place.{Place}
use Rattle.search_spec.specs.declared.Report.{Report}
use Rattle.listing_text.specs.Listing.{Line, place_line, lines, line_of, line_at, lines_of, bit, report_line, listing, refusal_text, most_places, listing_bytes}

lines_snoc : (p : ℕ) (ls : List Line) (l : Line) → lines p (ls ++ (l ∷ [])) ≡ lines p ls ++ place_line (length ls + p) l
unfolding lines
lines_snoc p [] l = append-nil (place_line p l) ∙ rw (zero-add p)
lines_snoc p (x ∷ ls) l =
    let e : suc (length ls) + p ≡ length ls + suc p = omega arith in
    rw (lines_snoc (suc p) ls l, e) (sym (append_assoc (place_line p x) (lines (suc p) ls) (place_line (length ls + suc p) l)))

module _ (ids : List ℕ) (ds : List Float) (rows : List ℕ) where
  length_lines_of : (n : ℕ) → length (lines_of ids ds rows n) ≡ n
  unfolding lines_of
  length_lines_of zero = refl
  length_lines_of (suc n) = rw (length-append (lines_of ids ds rows n) (line_at ids ds rows n ∷ []), length_lines_of n) (omega arith)

  -- one line more
  lines_more : (n : ℕ) → lines 1 (lines_of ids ds rows (suc n)) ≡ lines 1 (lines_of ids ds rows n) ++ place_line (suc n) (line_at ids ds rows n)
  unfolding lines_of
  lines_more n =
      let e : length (lines_of ids ds rows n) + 1 ≡ suc n = omega (arith, length_lines_of n) in
      lines_snoc 1 (lines_of ids ds rows n) (line_at ids ds rows n) ∙ rw e

  pub lines_next : (n : ℕ) → lines 1 (lines_of ids ds rows n) ++ place_line (n + 1) (line_at ids ds rows n) ≡ lines 1 (lines_of ids ds rows (n + 1))
  lines_next n = rw (add-one n) (sym (lines_more n))

  -- and so its room
  pub lines-up : (n : ℕ) → length (lines 1 (lines_of ids ds rows (suc n))) ≡ length (lines 1 (lines_of ids ds rows n)) + length (place_line (suc n) (line_at ids ds rows n))
  lines-up n = ap length (lines_more n) ∙ length-append (lines 1 (lines_of ids ds rows n)) (place_line (suc n) (line_at ids ds rows n))

  pub lines-le : (i n : ℕ) → i ≤ n → length (lines 1 (lines_of ids ds rows i)) ≤ length (lines 1 (lines_of ids ds rows n))
  lines-le i zero h = let e : i ≡ 0 = omega arith in rw e (omega arith)
  lines-le i (suc n) h =
      ⊎_elim
      (λ (l : i < suc n). let k : i ≤ n = omega arith in omega (arith, lines-le i n k, lines-up n))
      (λ (l : suc n ≤ i). let e : i ≡ suc n = omega arith in rw e (omega arith))
      (lt_or_le i (suc n))

-- ---- how long: sixty bytes a line beside the place's own digits

line_bound : (d p : ℕ) (l : Line) → p < 10 ^ suc d → l.id < 2 ^ 64 → l.row < 2 ^ 64 → length (place_line p l) ≤ 61 + d
unfolding place_line
line_bound d p l h i r = simp length-append (omega (arith, length_decimal d p h, length_u64 l.id i, length_u64 l.row r, length_hex16 l.bits))

module _ (d : ℕ) (ids : List ℕ) (ds : List Float) (rows : List ℕ) (i : (k : ℕ) → get_or ids k 0 < 2 ^ 64) (r : (k : ℕ) → get_or rows k 0 < 2 ^ 64) where
  none : length (lines 1 (lines_of ids ds rows 0)) ≤ (61 + d) * 0
  unfolding lines lines_of
  none = omega arith

  lines_bound : (n : ℕ) → n < 10 ^ suc d → length (lines 1 (lines_of ids ds rows n)) ≤ (61 + d) * n
  lines_bound zero h = none
  lines_bound (suc n) h =
      let p : n < 10 ^ suc d = omega arith in
      rw (mul-suc (61 + d) n, lines-up ids ds rows n) (omega (arith, lines_bound n p, line_bound d (suc n) (line_at ids ds rows n) h (i n) (r n)))

-- the numbers of a report that a program can hold
pub record Held (r : Report) : Type 0 where
  pub generation : r.generation < 2 ^ 64
  pub sequence : r.sequence < 2 ^ 64
  pub eligible : r.eligible < 2 ^ 64
  pub measured : r.measured < 2 ^ 64

-- `u64::from` of a flag
pub is_bit : (b : Bool) → from_bool b ≡ bit b
is_bit true = refl
is_bit false = refl

bit_length : (b : Bool) → length (decimal (bit b)) ≡ 1
unfolding decimal decimal_in
bit_length true = refl
bit_length false = refl

report_bound : (r : Report) → Held r → length (report_line r) ≤ 147
unfolding report_line
report_bound r h =
    simp length-append
    (omega (
      arith,
      length_u64 r.generation h.generation,
      length_u64 r.sequence h.sequence,
      length_u64 r.eligible h.eligible,
      length_u64 r.measured h.measured,
      bit_length r.complete,
      bit_length r.approximate,
    ))

pub listing_bound : (r : Report) (ids : List ℕ) (ds : List Float) (rows : List ℕ) (n : ℕ) → Held r → ((k : ℕ) → get_or ids k 0 < 2 ^ 64) → ((k : ℕ) → get_or rows k 0 < 2 ^ 64)
    → n ≤ most_places → length (listing r (lines_of ids ds rows n)) ≤ listing_bytes
unfolding listing
listing_bound r ids ds rows n h i k le =
    let p : n < 10 ^ 4 = omega arith in
    simp length-append (omega (arith, report_bound r h, lines_bound 3 ids ds rows i k n p))

pub refusal_bound : (r : Refusal) → r.number < 2 ^ 64 → r.place < 2 ^ 64 → length (refusal_text r) ≤ 53
unfolding refusal_text
refusal_bound r n p = simp length-append (omega (arith, length_u64 r.number n, length_u64 r.place p))

-- ---- the answer slices of a search, into which its list was put

lines_of-cons : (i : ℕ) (ids : List ℕ) (d : Float) (ds : List Float) (r : ℕ) (rows : List ℕ) (n : ℕ)
    → lines_of (i ∷ ids) (d ∷ ds) (r ∷ rows) (suc n) ≡ line_at (i ∷ ids) (d ∷ ds) (r ∷ rows) 0 ∷ lines_of ids ds rows n
unfolding lines_of
lines_of-cons i ids d ds r rows zero = refl
lines_of-cons i ids d ds r rows (suc n) = ap (λ (ls : List Line). ls ++ (line_at ids ds rows n ∷ [])) (lines_of-cons i ids d ds r rows n)

lines_of-front : (ps : List Place) (a : List ℕ) (d : List Float) (r : List ℕ)
    → lines_of (map (λ p. p.id) ps ++ a) (map (λ p. p.distance) ps ++ d) (map (λ p. p.row) ps ++ r) (length ps) ≡ map line_of ps
unfolding lines_of
lines_of-front [] a d r = refl
lines_of-front (p ∷ ps) a d r =
    lines_of-cons p.id (map (λ p. p.id) ps ++ a) p.distance (map (λ p. p.distance) ps ++ d) p.row (map (λ p. p.row) ps ++ r) (length ps)
    ∙ ap (λ (ls : List Line). line_of p ∷ ls) (lines_of-front ps a d r)

pub lines_of-pasted : (ps : List Place) (a : List ℕ) (d : List Float) (r : List ℕ) (n : ℕ) → n ≡ length ps
    → lines_of (paste a 0 (map (λ p. p.id) ps)) (paste d 0 (map (λ p. p.distance) ps)) (paste r 0 (map (λ p. p.row) ps)) n ≡ map line_of ps
lines_of-pasted ps a d r n e =
    rw (e, paste-first a (map (λ p. p.id) ps), paste-first d (map (λ p. p.distance) ps), paste-first r (map (λ p. p.row) ps))
    (lines_of-front ps _ _ _)
