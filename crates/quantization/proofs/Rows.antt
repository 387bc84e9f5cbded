-- A row in bytes: it is written by one loop and two numbers, and reads back as itself.
use mathlib.Core.Path.{◌≡◌, refl, ap, ◌∙◌}
use mathlib.Core.Bool.{true}
use mathlib.Core.List.{List, ◌++◌, map, append_assoc, map-append}
use Prim.Native.Nat.{ℕ, ◌+◌}
use native.Mathlib.Omega.{arith}
use lib.Dec.{T}
use lib.ListN.{length, take, drop, length-append, length-map}
use lib.Seq.{take_at, drop_at}
use lib.Ieee.{binary64, of_bits, to_bits, fits}
use lib.Ieee.Bits.{of_bits-to_bits, to_bits-lt}
use mir.Syntax.{w8, w64}
use mir.Val.{SFits, to_z, of_z}
use mir.Facts.{to_z-of_z, Fits-of_z}
use Rattle.le.specs.Le.{le, le_at, bytes, paste}
use Rattle.le.proofs.LeLaws.{length_bytes, le-bytes-all}
use Rattle.le.proofs.Pastes.{paste-two}
use Rattle.codes.specs.Codes.{signed, within}
use Rattle.quantization.specs.View.{View, row_bytes, row_at}
use Rattle.quantization.proofs.Codes.{bytes_back}

-- ---- written
-- the codes stand behind 16 bytes, and the scale and the norm over these
pub row_is : (r : View) (front : List ℕ) {out : List ℕ} → length front ≡ 16 → out ≡ front ++ map (of_z w8) r.codes
    → paste (paste out 0 (bytes 8 (to_bits binary64 r.scale))) 8 (bytes 8 (of_z w64 r.norm)) ≡ row_bytes r
unfolding row_bytes
row_is r front {out} l e =
    let cs = map (of_z w8) r.codes in
    let a = bytes 8 (to_bits binary64 r.scale) in
    let b = bytes 8 (of_z w64 r.norm) in
    rw (paste-two out a b 8 (length_bytes 8 (to_bits binary64 r.scale)), length_bytes 8 (of_z w64 r.norm), e, drop_at front cs 16 l)

pub length_row : (r : View) → length (row_bytes r) ≡ 16 + length r.codes
unfolding row_bytes
length_row r =
    let a = length_bytes 8 (to_bits binary64 r.scale) in
    let b = length_bytes 8 (of_z w64 r.norm) in
    simp (length-append, length-map, a, b)

-- ---- read back
piece : {A : Type 0} (a b c : List A) (n at : ℕ) → length a ≡ at → length b ≡ n → take n (drop at (a ++ (b ++ c))) ≡ b
piece a b c n at e f = rw (drop_at a (b ++ c) at e, take_at b c n f)

pub reads_back : (r : View) (p q : List ℕ) → T (fits binary64 r.scale) → SFits w64 r.norm → within 127 r.codes ≡ true
    → row_at (length r.codes) (p ++ row_bytes r ++ q) (length p) ≡ r
unfolding row_at row_bytes
reads_back r p q f n w =
    let A = bytes 8 (to_bits binary64 r.scale) in
    let B = bytes 8 (of_z w64 r.norm) in
    let C = map (of_z w8) r.codes in
    let l = p ++ (A ++ B ++ C) ++ q in
    let a = length_bytes 8 (to_bits binary64 r.scale) in
    let b = length_bytes 8 (of_z w64 r.norm) in
    let e₁ : l ≡ p ++ (A ++ (B ++ (C ++ q))) = simp append_assoc in
    let e₂ : l ≡ (p ++ A) ++ (B ++ (C ++ q)) = simp append_assoc in
    let e₃ : l ≡ (p ++ A ++ B) ++ (C ++ q) = simp append_assoc in
    let s : of_bits binary64 (le_at 8 l (length p)) ≡ r.scale =
    ap (λ x. of_bits binary64 (le_at 8 x (length p))) e₁
    ∙ ap (λ x. of_bits binary64 (le x)) (piece p A (B ++ (C ++ q)) 8 (length p) refl a)
    ∙ ap (of_bits binary64) (le-bytes-all 8 (to_bits binary64 r.scale) (to_bits-lt binary64 r.scale f)) ∙ of_bits-to_bits binary64 r.scale f in
    let m : to_z w64 (le_at 8 l (length p + 8)) ≡ r.norm =
    ap (λ x. to_z w64 (le_at 8 x (length p + 8))) e₂
    ∙ ap (λ x. to_z w64 (le x)) (piece (p ++ A) B (C ++ q) 8 (length p + 8) (simp (length-append, a)) b)
    ∙ ap (to_z w64) (le-bytes-all 8 (of_z w64 r.norm) (Fits-of_z n).fits) ∙ to_z-of_z n in
    let c : take (length r.codes) (drop (length p + 16) (map signed l)) ≡ r.codes =
    ap (λ x. take (length r.codes) (drop (length p + 16) (map signed x))) e₃
    ∙ rw (map-append signed (p ++ A ++ B) (C ++ q), map-append signed C q)
    (piece (map signed (p ++ A ++ B)) (map signed C) (map signed q) (length r.codes) (length p + 16) (simp (length-map, length-append, a, b) (omega arith)) (simp length-map))
    ∙ bytes_back r.codes w in
    rw (s, m, c)
