-- totalOrder is a total order on all floats: of two one is not after the other, and what is not after is so along a chain.
-- Two that are not after each other are one float where an f64 holds them; else 1 may be written in many ways.
use mathlib.Core.Path.{◌≡◌, refl, sym, ap, ◌∙◌}
use mathlib.Core.Logic.{◌⊎◌, inl, inr}
use mathlib.Core.Bool.{Bool, true, false, not, cond, true≢false, not-not}
use Prim.Native.Nat.{ℕ, ◌*◌, ◌≤◌, ◌<◌}
use native.Mathlib.Omega.{arith}
use lib.Dec.{T, ltb, eqb}
use borrow.Author.Tests.{ltb-true, ltb-false, le-ltb, eqb-true, eqb-false, eq-eqb, ne_eqb}
use lib.Ieee.{Float, nan, inf, fin, binary64, lt, fits, is_nan}
use lib.Ieee.Positive.{num, den, den_pos, through}
use Rattle.le.proofs.Chain.{by}
use Rattle.float.specs.Order.{total_below, total_le, keyed}
use Rattle.float.proofs.BitLaws.{is_nan_lem}
use Rattle.float.proofs.Keys.{key_below, key-same}

-- ---- the order by kind, and within a kind by size

abbrev kind : Float → ℕ
kind (inf true) = 0
kind (fin true m e) = 1
kind (fin false m e) = 2
kind (inf false) = 3
kind nan = 4

-- x's side of the comparison of sizes, which is reversed where both are negative
abbrev side : Float → Float → ℕ
side x y = cond (eqb (kind x) 1) (num y * den x) (num x * den y)

says : (x y : Float) → total_below x y ≡ cond (eqb (kind x) (kind y)) (ltb (side x y) (side y x)) (ltb (kind x) (kind y))
unfolding total_below is_nan lt
says nan nan = refl
says nan (inf true) = refl
says nan (inf false) = refl
says nan (fin true n d) = refl
says nan (fin false n d) = refl
says (inf true) nan = refl
says (inf true) (inf true) = refl
says (inf true) (inf false) = refl
says (inf true) (fin true n d) = refl
says (inf true) (fin false n d) = refl
says (inf false) nan = refl
says (inf false) (inf true) = refl
says (inf false) (inf false) = refl
says (inf false) (fin true n d) = refl
says (inf false) (fin false n d) = refl
says (fin true m e) nan = refl
says (fin true m e) (inf true) = refl
says (fin true m e) (inf false) = refl
says (fin true m e) (fin true n d) = refl
says (fin true m e) (fin false n d) = refl
says (fin false m e) nan = refl
says (fin false m e) (inf true) = refl
says (fin false m e) (inf false) = refl
says (fin false m e) (fin true n d) = refl
says (fin false m e) (fin false n d) = refl

-- x is not after y
abbrev Upto : Float → Float → Type 0
Upto x y = (kind x < kind y) ⊎ (kind x ≡ kind y) × (side x y ≤ side y x)

reads : (x y : Float) → total_below y x ≡ false → Upto x y
reads x y h =
    by (eqb (kind y) (kind x))
    (λ e. let f : ltb (side y x) (side x y) ≡ false = rw (says y x, e) at h in
    inr (sym (eqb-true (kind y) (kind x) e), ltb-false (side y x) (side x y) f))
    (λ e. let f : ltb (kind y) (kind x) ≡ false = rw (says y x, e) at h in
    inl (omega (arith, eqb-false (kind y) (kind x) e, ltb-false (kind y) (kind x) f)))

holds : (x y : Float) → Upto x y → total_below y x ≡ false
holds x y (inl h) = says y x ∙ rw (ne_eqb (kind y) (kind x) (λ e. omega arith)) (le-ltb (kind y) (kind x) (omega arith))
holds x y (inr h) = says y x ∙ rw (eq-eqb (kind y) (kind x) (sym h.0)) (le-ltb (side y x) (side x y) h.1)

-- sizes go along a chain
sides : (x y z : Float) → kind x ≡ kind y → kind y ≡ kind z → side x y ≤ side y x → side y z ≤ side z y → side x z ≤ side z x
sides x y z p q h k =
    by (eqb (kind y) 1)
    (λ e. let f : eqb (kind x) 1 ≡ true = rw p e in
    let g : eqb (kind z) 1 ≡ true = rw (sym q) e in
    rw (f, g) (through (num z) (num y) (num x) (den z) (den y) (den x) (den_pos y) (rw (e, g) at k) (rw (e, f) at h)))
    (λ e. let f : eqb (kind x) 1 ≡ false = rw p e in
    let g : eqb (kind z) 1 ≡ false = rw (sym q) e in
    rw (f, g) (through (num x) (num y) (num z) (den x) (den y) (den z) (den_pos y) (rw (e, f) at h) (rw (e, g) at k)))

upto-trans : (x y z : Float) → Upto x y → Upto y z → Upto x z
upto-trans x y z (inl h) (inl k) = inl (omega arith)
upto-trans x y z (inl h) (inr k) = inl (omega arith)
upto-trans x y z (inr h) (inl k) = inl (omega arith)
upto-trans x y z (inr h) (inr k) = inr (h.0 ∙ k.0, sides x y z h.0 k.0 h.1 k.1)

-- ---- the laws

pub below_one_way : (x y : Float) → total_below x y ≡ true → total_below y x ≡ false
below_one_way x y h =
    holds x y (by (eqb (kind x) (kind y))
    (λ e. let f : ltb (side x y) (side y x) ≡ true = rw (says x y, e) at h in
    inr (eqb-true (kind x) (kind y) e, omega (arith, ltb-true (side x y) (side y x) f)))
    (λ e. let f : ltb (kind x) (kind y) ≡ true = rw (says x y, e) at h in
    inl (ltb-true (kind x) (kind y) f)))

pub not_below-trans : (x y z : Float) → total_below x y ≡ false → total_below y z ≡ false → total_below x z ≡ false
not_below-trans x y z h k = holds z x (upto-trans z y x (reads z y k) (reads y x h))

turned : (b : Bool) {c : Bool} → not b ≡ c → b ≡ not c
turned b h = sym (not-not b) ∙ ap not h

pub total-trans : (x y z : Float) → total_le x y ≡ true → total_le y z ≡ true → total_le x z ≡ true
unfolding total_le
total-trans x y z h k = ap not (not_below-trans z y x (turned (total_below z y) k) (turned (total_below y x) h))

pub total-total : (x y : Float) → total_le x y ≡ false → total_le y x ≡ true
unfolding total_le
total-total x y h = ap not (below_one_way y x (turned (total_below y x) h))

number-before_nan : (x y : Float) → is_nan x ≡ false → is_nan y ≡ true → total_below x y ≡ true
unfolding total_below
number-before_nan x y h k = rw (h, k)

pub total-antisym : (x y : Float) → T (fits binary64 x) → T (fits binary64 y) → total_le x y ≡ true → total_le y x ≡ true → x ≡ y
unfolding total_le
total-antisym x y f g h k =
    let p : total_below y x ≡ false = turned (total_below y x) h in
    let q : total_below x y ≡ false = turned (total_below x y) k in
    by (is_nan x)
    (λ a. by (is_nan y) (λ b. is_nan_lem x a ∙ sym (is_nan_lem y b)) (λ b. absurd (true≢false (sym (number-before_nan y x b a) ∙ p))))
    (λ a. by (is_nan y)
    (λ b. absurd (true≢false (sym (number-before_nan x y a b) ∙ q)))
    (λ b. let m : T (not (is_nan x)) = rw a tt in
    let n : T (not (is_nan y)) = rw b tt in
    let i = ltb-false (keyed y) (keyed x) (key_below y x g f n m ∙ p) in
    let j = ltb-false (keyed x) (keyed y) (key_below x y f g m n ∙ q) in
    key-same x y f g (omega arith)))
