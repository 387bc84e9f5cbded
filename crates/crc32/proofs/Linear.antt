-- The steps are linear over xor, and n steps undo a shift by n.
use mathlib.Core.Path.{◌≡◌, refl, sym, ap, ap₂, ◌∙◌}
use mathlib.Core.List.{List, [], ◌∷◌, ◌++◌}
use Prim.Native.Nat.{ℕ, zero, suc, ◌+◌, ◌*◌, ◌/◌, ◌%◌, ◌<◌, ◌≤◌}
use native.Mathlib.Nat.{mul_comm, add_comm, suc-add, zero-add}
use native.Mathlib.Numerals.{add-one}
use native.Mathlib.Omega.{arith}
use lib.Bits.{bit_xor, differ, xor_comm, xor_zero_r, xor_shifted}
use lib.ListN.{length, get_or, drop, drop_of_length-le}
use lib.Seq.{drop-cons}
use Rattle.crc32.specs.Crc.{step, steps, update}
use Rattle.crc32.proofs.Xor.{xor_half, xor_odd, xor_four}

polys : (x y : ℕ) → x < 2 → y < 2 → differ x y * 0xEDB88320 ≡ bit_xor (x * 0xEDB88320) (y * 0xEDB88320)
polys zero y hx hy = refl
polys (suc zero) zero hx hy = refl
polys (suc zero) (suc zero) hx hy = refl
polys (suc zero) (suc (suc y)) hx hy = absurd (omega arith)
polys (suc (suc x)) y hx hy = absurd (omega arith)

pub step_xor : (a b : ℕ) → step (bit_xor a b) ≡ bit_xor (step a) (step b)
unfolding step
step_xor a b =
    ap₂ (λ x y. bit_xor x (y * 0xEDB88320)) (xor_half a b) (xor_odd a b)
    ∙ ap (bit_xor (bit_xor (a / 2) (b / 2))) (polys (a % 2) (b % 2) (omega arith) (omega arith))
    ∙ xor_four (a / 2) (b / 2) (a % 2 * 0xEDB88320) (b % 2 * 0xEDB88320)

pub steps_xor : (n a b : ℕ) → steps n (bit_xor a b) ≡ bit_xor (steps n a) (steps n b)
unfolding steps
steps_xor zero a b = refl
steps_xor (suc n) a b = ap (steps n) (step_xor a b) ∙ steps_xor n (step a) (step b)

pub steps_add : (m n c : ℕ) → steps (m + n) c ≡ steps n (steps m c)
unfolding steps
steps_add zero n c = ap (λ k. steps k c) (zero-add n)
steps_add (suc m) n c = ap (λ k. steps k c) (suc-add m n) ∙ steps_add m n (step c)

step_double : (m : ℕ) → step (2 * m) ≡ m
unfolding step
step_double m =
    let h : 2 * m / 2 ≡ m = omega arith in
    let o : 2 * m % 2 ≡ 0 = omega arith in
    rw (h, o) (xor_zero_r m)

-- eight steps on a whole byte of zeros only shift
pub steps_shift : (m : ℕ) → steps 8 (256 * m) ≡ m
unfolding steps
steps_shift m =
    let e : 256 * m ≡ 2 * (2 * (2 * (2 * (2 * (2 * (2 * (2 * m))))))) = omega arith in
    rw e (simp step_double)

-- the low byte and the rest
pub apart : (x m : ℕ) → x < 256 → x + 256 * m ≡ bit_xor x (256 * m)
apart x m h = add_comm x (256 * m) ∙ rw (mul_comm 256 m) (sym (xor_shifted m 8 x h) ∙ xor_comm (m * 256) x)

-- eight steps: the low byte by the table, the rest shifted
pub by_table : (c : ℕ) → steps 8 c ≡ bit_xor (steps 8 (c % 256)) (c / 256)
by_table c =
    let e : c ≡ c % 256 + 256 * (c / 256) = omega arith in
    ap (steps 8) (e ∙ apart (c % 256) (c / 256) (omega arith)) ∙ steps_xor 8 (c % 256) (256 * (c / 256))
    ∙ ap (bit_xor (steps 8 (c % 256))) (steps_shift (c / 256))

-- a sum may be taken in parts
pub crc-append : (c : ℕ) (s t : List ℕ) → update c (s ++ t) ≡ update (update c s) t
unfolding update
crc-append c [] t = refl
crc-append c (x ∷ s) t = crc-append (steps 8 (bit_xor c x)) s t

-- one turn of a loop over the bytes, and its end
pub crc_turn : (s : List ℕ) (c i : ℕ) → i < length s → update c (drop i s) ≡ update (steps 8 (bit_xor c (get_or s i 0))) (drop (i + 1) s)
unfolding update
crc_turn s c i h = rw (add-one i, drop-cons s i 0 h)

pub crc_done : (s : List ℕ) (c i : ℕ) → length s ≤ i → update c (drop i s) ≡ c
unfolding update
crc_done s c i h = rw (drop_of_length-le s h)
