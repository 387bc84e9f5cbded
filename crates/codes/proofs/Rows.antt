-- Sums over the codes of a row, taken in parts. The laws are over lists of integers, those that a row of bytes or of signed numbers
-- holds.
use mathlib.Core.Path.{◌≡◌, refl, sym, ap, ◌∙◌}
use mathlib.Core.List.{List, [], ◌∷◌, ◌++◌}
use mathlib.Core.Bool.{Bool, true, ◌&&◌, and_assoc, and-true}
use mathlib.Core.Logic.{⊎_elim}
use Prim.Native.Nat.{ℕ, ◌+◌, ◌-◌, ◌*◌, ◌≤◌, ◌<◌}
use native.Mathlib.Omega.{arith}
use borrow.Author.Tests.{lt-ltb, le-ltb, le-leb}
use lib.Dec.{leb}
use lib.IntN.{ℤ, pos, nat_abs, ◌+ℤ◌, ◌*ℤ◌, +ℤ_assoc, +ℤ_idl, +ℤ_idr, zero-*ℤ}
use lib.ListN.{length, take, drop, get_or, length-drop}
use lib.Seq.{take-add, drop-drop, drop-cons, length-take-le, take-length}
use mir.Syntax.{w32}
use mir.Val.{to_z, of_z}
use mir.Facts.{to_z-of_z}
use Rattle.codes.specs.declared.Check.{Check}
use Rattle.codes.specs.declared.Sums.{Sums}
use Rattle.codes.specs.Codes.{signed, codes, part, dot, squares, within, RowCheck, RowSums}
use Rattle.codes.specs.Sums.{masked_at, Dotted, Checked, Summed, CodeAdded, CodeChecked, SumsAdded, ChecksAdded}
use Rattle.std.proofs.lemmas.List.{take-map, drop-map}
use Rattle.le.proofs.Chain.{lt_or_le}
use Rattle.codes.proofs.Numbers.{abs_add, small}

-- ---- two runs of codes, one after the other

part_add : (n m : ℕ) (xs : List ℤ) (p : ℕ) → part (n + m) xs p ≡ part n xs p ++ part m xs (p + n)
part_add n m xs p = rw (take-add n m (drop p xs), drop-drop n p xs)

part-one : (xs : List ℤ) (p : ℕ) → p < length xs → part 1 xs p ≡ get_or xs p (pos 0) ∷ []
part-one xs p h = rw (drop-cons xs p (pos 0) h)

part_length : (n : ℕ) (xs : List ℤ) (p : ℕ) → p + n ≤ length xs → length (part n xs p) ≡ n
part_length n xs p h = length-take-le n (drop p xs) (simp length-drop (omega arith))

pub dot-append : (xs ys us vs : List ℤ) → length xs ≡ length us → dot (xs ++ ys) (us ++ vs) ≡ dot xs us +ℤ dot ys vs
unfolding dot
dot-append [] ys [] vs h = sym (+ℤ_idl (dot ys vs))
dot-append [] ys (u ∷ us) vs h = absurd (omega arith)
dot-append (x ∷ xs) ys [] vs h = absurd (omega arith)
dot-append (x ∷ xs) ys (u ∷ us) vs h = rw (dot-append xs ys us vs (omega arith), +ℤ_assoc)

pub squares-append : (xs ys : List ℤ) → squares (xs ++ ys) ≡ squares xs + squares ys
unfolding squares
squares-append [] ys = omega arith
squares-append (x ∷ xs) ys = omega (arith, squares-append xs ys)

pub within-append : (levels : ℕ) (xs ys : List ℤ) → within levels (xs ++ ys) ≡ (within levels xs && within levels ys)
unfolding within
within-append levels [] ys = refl
within-append levels (x ∷ xs) ys =
    rw (within-append levels xs ys) (sym (and_assoc (leb (nat_abs x) levels) (within levels xs) (within levels ys)))

-- ---- the sum of the squares, and whether the codes are within the levels

pub check_start : {levels : ℕ} {n : ℕ} {xs : List ℤ} {i : ℕ} → n ≡ 0 → Checked levels n xs i (record { squares = 0; whole = true })
unfolding squares within
check_start e = rw e (record { squared = refl; size = omega arith; whole = refl })

pub check_add : {levels : ℕ} {n m N : ℕ} {xs : List ℤ} {i i' : ℕ} {a b r : Check} → i' ≡ i + n → N ≡ n + m → ChecksAdded a b r
    → Checked levels n xs i a → Checked levels m xs i' b → Checked levels N xs i r
check_add {levels} {n} {m} {xs = xs} {i} {i'} e k J A B =
    record {
      squared = rw (J.squared, A.squared, B.squared, e, k, part_add n m xs i) (sym (squares-append (part n xs i) (part m xs (i + n))));
      size = omega (arith, J.squared, A.size, B.size);
      whole = rw (J.whole, A.whole, B.whole, e, k, part_add n m xs i) (sym (within-append levels (part n xs i) (part m xs (i + n))));
    }

check_one : {levels : ℕ} {xs : List ℤ} {i : ℕ} {x : ℤ} → i < length xs → x ≡ get_or xs i (pos 0) → nat_abs x * nat_abs x ≤ 16384
    → Checked levels 1 xs i (record { squares = nat_abs x * nat_abs x; whole = leb (nat_abs x) levels })
unfolding squares within
check_one {levels} {xs} {i} {x} h e s =
    record {
      squared = rw (part-one xs i h, ← e) (omega arith);
      size = omega arith;
      whole = rw (part-one xs i h, ← e) (sym (and-true (leb (nat_abs x) levels)));
    }

-- ---- the dot product

dot-start : {n : ℕ} {xs ys : List ℤ} {i : ℕ} → n ≡ 0 → length ys ≡ length xs → i ≤ length ys → Dotted n xs ys i (pos 0)
unfolding dot
dot-start e h k = rw e (record { row = h; query = omega arith; is = refl; size = omega arith })

dot_add : {n m N : ℕ} {xs ys : List ℤ} {i i' : ℕ} {d e f : ℤ} → i' ≡ i + n → N ≡ n + m → f ≡ d +ℤ e
    → Dotted n xs ys i d → Dotted m xs ys i' e → Dotted N xs ys i f
dot_add {n} {m} {N} {xs} {ys} {i} {i'} {d} {e} a g t A B =
    record {
      row = A.row;
      query = omega (arith, B.query);
      is =
          let l : length (part n xs i) ≡ length (part n ys i)
          = part_length n xs i (omega (arith, A.row, A.query)) ∙ sym (part_length n ys i A.query) in
          rw (t, A.is, B.is, a, g, part_add n m xs i, part_add n m ys i)
          (sym (dot-append (part n xs i) (part m xs (i + n)) (part n ys i) (part m ys (i + n)) l));
      size = rw (t, g) (omega (arith, abs_add d e, A.size, B.size));
    }

dot-one : {xs ys : List ℤ} {i : ℕ} {x y : ℤ} → length ys ≡ length xs → i < length ys → x ≡ get_or xs i (pos 0)
    → y ≡ get_or ys i (pos 0) → nat_abs (x *ℤ y) ≤ 16384 → Dotted 1 xs ys i (x *ℤ y)
unfolding dot
dot-one {xs} {ys} {i} h k e f s =
    record {
      row = h;
      query = omega arith;
      is = rw (part-one xs i (omega arith), part-one ys i k, ← e, ← f) (sym (+ℤ_idr _));
      size = omega arith;
    }

-- ---- one code more

pub code-checked : {levels : ℕ} {x z : ℤ} {s : Check} {v : ℕ} {t : Bool} → z ≡ x → (v ≡ nat_abs z * nat_abs z) × (v ≤ 16384)
    → t ≡ leb (nat_abs z) levels → CodeChecked levels x s (record { squares = s.squares + v; whole = s.whole && t })
code-checked e v t = rw (← e) (record { squared = rw v.0; size = omega (arith, v.1); whole = rw t })

-- one code more at place m
check_next : (m : ℕ) {levels n N : ℕ} {xs : List ℤ} {i : ℕ} {x : ℤ} {s r : Check} → m ≡ i + n → N ≡ n + 1 → m < length xs
    → x ≡ get_or xs m (pos 0) → CodeChecked levels x s r → Checked levels n xs i s → Checked levels N xs i r
check_next m d g h e z A =
    check_add d g (record { squared = z.squared; whole = z.whole }) A (check_one {i = m} h e (omega (arith, z.squared, z.size)))

pub sums_next : (m : ℕ) {levels n N : ℕ} {xs ys : List ℤ} {i : ℕ} {x y : ℤ} {s r : Sums} → m ≡ i + n → N ≡ n + 1 → m < length ys
    → x ≡ get_or xs m (pos 0) → y ≡ get_or ys m (pos 0) → CodeAdded levels x y s r → Summed levels n xs ys i s → Summed levels N xs ys i r
sums_next m d g h e f z A =
    record {
      dotted = dot_add d g z.dotted A.dotted (dot-one {i = m} A.dotted.row h e f z.size);
      checked = check_next m d g (omega (arith, A.dotted.row)) e z.checked A.checked;
    }

-- one code more at place p + j, taken as 0 if that comes before i
pub check_code : (i p j k : ℕ) {levels : ℕ} {xs : List ℤ} {x : ℤ} {s r : Check} → i + k ≡ p + 17 → p + j < length xs
    → x ≡ get_or xs (p + j) (pos 0) → CodeChecked levels (masked_at j k x) s r → Checked levels (p + j - i) xs i s
    → Checked levels (p + (j + 1) - i) xs i r
check_code i p j k {levels} {xs} {x} {s} {r} d h e t A = ⊎_elim before taken (lt_or_le (j + k) 17)
  where
    before : j + k < 17 → Checked levels (p + (j + 1) - i) xs i r
    before l =
        let z : CodeChecked levels (pos 0) s r = rw (lt-ltb (j + k) 17 l) at t in
        let n : p + (j + 1) - i ≡ p + j - i = omega arith in
        let v : r.squares ≡ s.squares = omega (arith, z.squared) in
        let w : r.whole ≡ s.whole = rw (z.whole, le-leb 0 levels (omega arith), and-true s.whole) in
        rw n (record { squared = v ∙ A.squared; size = omega (arith, A.size); whole = w ∙ A.whole })

    taken : 17 ≤ j + k → Checked levels (p + (j + 1) - i) xs i r
    taken l =
        let z : CodeChecked levels x s r = rw (le-ltb (j + k) 17 l) at t in
        check_next (p + j) (omega arith) (omega arith) h e z A

pub sums-code : (i p j k : ℕ) {levels : ℕ} {xs ys : List ℤ} {x y : ℤ} {s r : Sums} → i + k ≡ p + 17 → p + j < length ys
    → x ≡ get_or xs (p + j) (pos 0) → y ≡ get_or ys (p + j) (pos 0) → CodeAdded levels (masked_at j k x) y s r
    → Summed levels (p + j - i) xs ys i s → Summed levels (p + (j + 1) - i) xs ys i r
sums-code i p j k {levels} {xs} {ys} {x} {y} {s} {r} d h e f t A = ⊎_elim before taken (lt_or_le (j + k) 17)
  where
    before : j + k < 17 → Summed levels (p + (j + 1) - i) xs ys i r
    before l =
        let z : CodeAdded levels (pos 0) y s r = rw (lt-ltb (j + k) 17 l) at t in
        let n : p + (j + 1) - i ≡ p + j - i = omega arith in
        record {
          dotted = rw (n, z.dotted, zero-*ℤ y, +ℤ_idr s.dot) A.dotted;
          checked = check_code i p j k d (omega (arith, A.dotted.row)) e t.checked A.checked;
        }

    taken : 17 ≤ j + k → Summed levels (p + (j + 1) - i) xs ys i r
    taken l =
        let z : CodeAdded levels x y s r = rw (le-ltb (j + k) 17 l) at t in
        sums_next (p + j) (omega arith) (omega arith) h e f z A

-- ---- a part of a row, and the row

pub sums-start : {levels : ℕ} {n : ℕ} {xs ys : List ℤ} {i : ℕ} → n ≡ 0 → length ys ≡ length xs → i ≤ length ys
    → Summed levels n xs ys i (record { dot = pos 0; check = record { squares = 0; whole = true } })
sums-start e h k = record { dotted = dot-start e h k; checked = check_start e }

pub sums_add : {levels : ℕ} {n m N : ℕ} {xs ys : List ℤ} {i i' : ℕ} {a b r : Sums} → i' ≡ i + n → N ≡ n + m
    → SumsAdded a b r → Summed levels n xs ys i a → Summed levels m xs ys i' b → Summed levels N xs ys i r
sums_add e g j A B =
    record { dotted = dot_add e g j.dotted A.dotted B.dotted; checked = check_add e g j.checked A.checked B.checked }

pub check_done : {levels : ℕ} {n : ℕ} {xs : List ℤ} {i : ℕ} {r : Check} → n ≡ length xs → i ≡ 0 → Checked levels n xs i r → RowCheck levels xs r
check_done {xs = xs} e f A = record { squared = rw (A.squared, e, f, take-length xs); whole = rw (A.whole, e, f, take-length xs) }

pub sums_done : {levels : ℕ} {n : ℕ} {xs ys : List ℤ} {i : ℕ} {r : Sums} → n ≡ length ys → i ≡ 0 → Summed levels n xs ys i r → RowSums levels xs ys r
sums_done {xs = xs} {ys} e f A =
    let h : length ys ≡ length xs = A.dotted.row in
    record {
      dotted = rw (A.dotted.is, e, f, take-length ys) (rw (h, take-length xs));
      size = omega (arith, A.dotted.size);
      checked = check_done (e ∙ h) f A.checked;
    }

-- a row's dot product as an i32 holds it
pub dot-held : {levels : ℕ} {xs ys : List ℤ} {r : Sums} → length ys ≤ 65536 → RowSums levels xs ys r → to_z w32 (of_z w32 r.dot) ≡ dot xs ys
dot-held {r = r} h A = to_z-of_z {w = w32} {z = r.dot} (small (omega (arith, A.size))) ∙ A.dotted

-- ---- a row cut from a longer list

range : {X : Type 0} (l : List X) (p n : ℕ) → take (p + n - p) (drop p l) ≡ take n (drop p l)
range l p n = let e : p + n - p ≡ n = omega arith in rw e

pub cut_length : {X : Type 0} (l : List X) (p n : ℕ) → p + n ≤ length l → n ≡ length (take (p + n - p) (drop p l))
cut_length l p n h =
    sym (length-take-le n (drop p l) (simp length-drop (omega arith))) ∙ ap length (sym (range l p n))

pub cut : (l : List ℤ) (p n : ℕ) → take (p + n - p) (drop p l) ≡ part n l p
cut l p n = range l p n

pub cut_bytes : (l : List ℕ) (p n : ℕ) → codes (take (p + n - p) (drop p l)) ≡ part n (codes l) p
cut_bytes l p n = rw (range l p n, drop-map signed p l, take-map signed n (drop p l))
