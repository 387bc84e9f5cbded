-- One piece of text after the other.
use mathlib.Core.Path.{◌≡◌, refl, sym, ap, ◌∙◌}
use mathlib.Core.List.{List, [], ◌++◌}
use Prim.Native.Nat.{ℕ, ◌+◌, ◌-◌, ◌≤◌}
use native.Mathlib.Omega.{arith}
use lib.ListN.{length, length-append}
use borrow.Rule.Slice.PartMut.{put_mid}
use Rattle.le.specs.Le.{paste}
use Rattle.le.proofs.Pastes.{paste-next, paste-nil, paste-part}
use Rattle.text.specs.Put.{Put}
use Rattle.text.specs.Wrote.{HasRoom, Wrote}
use Rattle.text.specs.declared.Writer.{Writer}

-- a word that is copied
pub put_copied : (d ys word : List ℕ) (at : ℕ) → at + length word ≤ length d → ys ≡ word → Put d (put_mid at (at + length word - at) d ys) at word (at + length word)
put_copied d ys word at h e =
    let l : length ys ≡ at + length word - at = rw e (omega arith) in
    let a : at ≤ at + length word = omega arith in
    record { is = paste-part d at (at + length word) ys a l ∙ ap (λ (x : List ℕ). paste d at x) e; ends = omega arith }

pub put_same : {d e : List ℕ} {at n : ℕ} {a b : List ℕ} → a ≡ b → Put d e at a n → Put d e at b n
put_same h p = rw h at p

-- what stands there, by other names
pub put_end : {d e f : List ℕ} {at m n : ℕ} {a : List ℕ} → f ≡ e → n ≡ m → Put d e at a m → Put d f at a n
put_end g h p = record { is = g ∙ p.is; ends = h ∙ p.ends }

put_then : {d e f : List ℕ} {at m n : ℕ} {a b : List ℕ} → Put d e at a m → Put e f m b n → m ≤ length d → Put d f at (a ++ b) n
put_then {d} {e} {f} {at} {m} {n} {a} {b} p q h = record {
  is = q.is ∙ ap (λ (x : List ℕ). paste x m b) p.is ∙ paste-next d at a b m (sym p.ends) h;
  ends = rw (length-append a b) (omega (arith, p.ends, q.ends));
}

put_none : (d : List ℕ) (at : ℕ) → Put d d at [] at
put_none d at = record { is = sym (paste-nil d at); ends = omega arith }

pub wrote_none : (w : Writer) → Wrote w w []
wrote_none w = record { put = put_none w.out.now w.at; size = refl }

pub wrote_same : {u v : Writer} {a b : List ℕ} → a ≡ b → Wrote u v a → Wrote u v b
wrote_same h w = record { put = put_same h w.put; size = w.size }

pub wrote_then : {u v w : Writer} {a b : List ℕ} → Wrote u v a → Wrote v w b → Wrote u w (a ++ b)
wrote_then {u} {v} {w} p q = record { put = put_then p.put q.put (omega (arith, v.fits, p.size)); size = q.size ∙ p.size }

-- where there is room for two texts, there is for the first, and after it for the second
pub room_first : (u : Writer) (a b : List ℕ) → HasRoom u (a ++ b) → HasRoom u a
room_first u a b h = omega (arith, h, length-append a b)

pub room_then : {u v : Writer} {a : List ℕ} (b : List ℕ) → HasRoom u (a ++ b) → Wrote u v a → HasRoom v b
room_then {u} {v} {a} b h p = omega (arith, h, length-append a b, p.put.ends, p.size)
