-- The two numbers that a function stores.
use mathlib.Core.Path.{◌≡◌, refl, ◌∙◌}
use mathlib.Core.List.{List}
use mathlib.Core.Bool.{Bool, true, false, cond}
use Prim.Native.Nat.{ℕ}
use native.Mathlib.Omega.{arith}
use lib.ListN.{length, set, get_or, length-set}
use lib.Seq.{get_or-set_same, get_or-set_other}
use mir.Val.{bool_byte}

pub bool_number : (b : Bool) → bool_byte b ≡ cond b 1 0
bool_number true = refl
bool_number false = refl

pub stored : (l : List ℕ) {a s : ℕ} {b t : Bool} → length l ≡ 2 → a ≡ s → b ≡ t
    → (get_or (set (set l 0 a) 1 (bool_byte b)) 0 0 ≡ s) × (get_or (set (set l 0 a) 1 (bool_byte b)) 1 0 ≡ cond t 1 0)
stored l {a} {b = b} h e f =
    (get_or-set_other (set l 0 a) 1 0 (bool_byte b) 0 (λ x. omega arith) ∙ get_or-set_same l 0 a 0 (omega arith) ∙ e, rw (← f) (get_or-set_same (set l 0 a) 1 (bool_byte b) 0 (simp length-set (omega arith)) ∙ bool_number b))
