-- The sum of bytes fits 32 bits, so that it can be read back where it was written.
use mathlib.Core.Path.{◌≡◌, refl, sym, ap, ◌∙◌}
use mathlib.Core.Bool.{true}
use mathlib.Core.List.{List, [], ◌∷◌, ◌++◌}
use Prim.Native.Nat.{ℕ, zero, suc, ◌-◌, ◌*◌, ◌/◌, ◌%◌, ◌^◌, ◌≤◌, ◌<◌}
use native.Mathlib.Omega.{arith}
use lib.ListN.{length, take, length-append}
use lib.Seq.{take_at, drop_at, take-length}
use borrow.Author.Tests.{le-leb, eq-eqb}
use lib.Bits.{bit_xor, xor_lt}
use Rattle.le.specs.Le.{le, bytes}
use Rattle.le.proofs.LeLaws.{AllBytes, le-bytes-all, length_bytes}
use Rattle.crc32.specs.Crc.{step, steps, update, crc32, ends_in_crc}

step_lt : (c : ℕ) → c < 2 ^ 32 → step c < 2 ^ 32
unfolding step
step_lt c h = xor_lt 32 (c / 2) (c % 2 * 0xEDB88320) (omega arith) (omega arith)

steps_lt : (n c : ℕ) → c < 2 ^ 32 → steps n c < 2 ^ 32
unfolding steps
steps_lt zero c h = h
steps_lt (suc n) c h = steps_lt n (step c) (step_lt c h)

update_lt : (c : ℕ) (s : List ℕ) → c < 2 ^ 32 → AllBytes s → update c s < 2 ^ 32
unfolding update
update_lt c [] h b = h
update_lt c (x ∷ s) h b = update_lt (steps 8 (bit_xor c x)) s (steps_lt 8 (bit_xor c x) (xor_lt 32 c x h (omega (arith, b.0)))) b.1

pub crc_lt : (s : List ℕ) → AllBytes s → crc32 s < 2 ^ 32
unfolding crc32
crc_lt s b = xor_lt 32 (update 0xFFFFFFFF s) 0xFFFFFFFF (update_lt 0xFFFFFFFF s (omega arith) b) (omega arith)

-- bytes with their CRC-32 behind them
pub ends_in_crc_lem : (x : List ℕ) → AllBytes x → ends_in_crc (x ++ bytes 4 (crc32 x)) ≡ true
unfolding ends_in_crc
ends_in_crc_lem x b =
    let t = bytes 4 (crc32 x) in
    let k = length_bytes 4 (crc32 x) in
    let l : length (x ++ t) - 4 ≡ length x = simp length-append (omega (arith, k)) in
    let w : take 4 t ≡ t = ap (λ (n : ℕ). take n t) (sym k) ∙ take-length t in
    let h : 4 ≤ length (x ++ t) = simp length-append (omega (arith, k)) in
    rw (le-leb 4 (length (x ++ t)) h, l, take_at x t (length x) refl, drop_at x t (length x) refl)
    (eq-eqb (crc32 x) (le (take 4 t)) (sym (ap le w ∙ le-bytes-all 4 (crc32 x) (crc_lt x b))))
