-- Parts one after the other, and their stores into a lent slice. Over any element.
use mathlib.Core.Path.{◌≡◌, refl, sym, ap, ◌∙◌}
use mathlib.Core.List.{List, [], ◌∷◌, ◌++◌, append-nil, append_assoc}
use mathlib.Core.Logic.{⊎_elim}
use Prim.Native.Nat.{ℕ, zero, suc, ◌+◌, ◌-◌, ◌*◌, ◌≤◌, ◌<◌}
use native.Mathlib.Nat.{suc-mul, mul-le-mul_right}
use native.Mathlib.Numerals.{add-one}
use native.Mathlib.Omega.{arith}
use lib.ListN.{length, get_or, set, take, drop, length-append}
use borrow.Rule.Slice.PartMut.{put_mid}
use lib.Seq.{take_at, drop_at, get_or-append-add}
use Rattle.le.specs.Le.{paste, joined}
use Rattle.le.proofs.Chain.{lt_or_le}
use Rattle.le.proofs.Pastes.{paste-next, length_paste, paste-nil, paste-part, paste_sets}

-- the place behind part n, and that it is no later than the place behind the last
pub part-ends : (n k rows : ℕ) → n < rows → n * k + k ≤ rows * k
part-ends n k rows h = rw (← suc-mul n k) (mul-le-mul_right k h)

module _ {A : Type 0} (f : ℕ → List A) where
  pub joined-none : joined f 0 ≡ []
  unfolding joined
  joined-none = refl

  joined-more : (n : ℕ) → joined f (n + 1) ≡ joined f n ++ f n
  unfolding joined
  joined-more n = rw (add-one n)

  -- part n, and what follows it among the first k
  pub record Rest (n k : ℕ) : Type 0 where
    pub rest : List A
    pub is : joined f k ≡ joined f n ++ f n ++ rest

  pub rest_of : (k n : ℕ) → n < k → Rest n k
  unfolding joined
  rest_of zero n h = absurd (omega arith)
  rest_of (suc k) n h =
      ⊎_elim {C = Rest n (suc k)}
      (λ (l : n < k). let r = rest_of k n l in
      record { rest = r.rest ++ f k; is = ap (λ (x : List A). x ++ f k) r.is ∙ append_assoc (joined f n ++ f n) r.rest (f k) })
      (λ (g : k ≤ n). let e : n ≡ k = omega arith in record { rest = []; is = rw e (sym (append-nil (joined f k ++ f k))) }) (lt_or_le n k)

  pub store_none : (d : List A) (at : ℕ) → d ≡ paste d at (joined f 0)
  store_none d at = rw joined-none (sym (paste-nil d at))

-- parts of one length
module _ {A : Type 0} (f : ℕ → List A) (k : ℕ) (h : (r : ℕ) → length (f r) ≡ k) where
  pub length_joined : (n : ℕ) → length (joined f n) ≡ n * k
  unfolding joined
  length_joined zero = omega arith
  length_joined (suc n) = let i = length_joined n in let e = h n in let m = suc-mul n k in simp length-append (omega (arith, i, e, m))

  -- one part more
  store_next : (d : List A) (at n from : ℕ) → from ≡ at + n * k → from ≤ length d → paste (paste d at (joined f n)) from (f n) ≡ paste d at (joined f (n + 1))
  store_next d at n from e l = rw (joined-more f n) (paste-next d at (joined f n) (f n) from (let i = length_joined n in omega (arith, i, e)) l)

  pub length_stored : (d : List A) (at n : ℕ) → at + n * k ≤ length d → length (paste d at (joined f n)) ≡ length d
  length_stored d at n l = length_paste d (joined f n) at (rw (length_joined n) l)

  -- a turn of a loop that lends part n, `&mut d[from..e]`, and gets it back
  pub part_turn : (o : List A) (at n : ℕ) {d ys : List A} {from e : ℕ} → d ≡ paste o at (joined f n) → ys ≡ f n → from ≡ at + n * k → e ≡ from + k → from ≤ length o
      → put_mid from (e - from) d ys ≡ paste o at (joined f (n + 1))
  part_turn o at n {d} {ys} {from} {e} p q a b l =
      let y : length ys ≡ k = ap length q ∙ h n in
      paste-part d from e ys (omega arith) (omega arith) ∙ rw (p, q) (store_next o at n from a l)

  -- a part, read back
  pub part_at : (n r : ℕ) (t : List A) → r < n → take k (drop (r * k) (joined f n ++ t)) ≡ f r
  part_at n r t l =
      let x = rest_of f n r l in
      rw (x.is, append_assoc (joined f r ++ f r) x.rest t, append_assoc (joined f r) (f r) (x.rest ++ t), drop_at (joined f r) (f r ++ (x.rest ++ t)) (r * k) (length_joined r), take_at (f r) (x.rest ++ t) k (h r))

-- one element each
pub element_at : {A : Type 0} (g : ℕ → A) (n r : ℕ) (t : List A) (d : A) → r < n → get_or (joined (λ i. g i ∷ []) n ++ t) r d ≡ g r
element_at {A} g n r t d l =
    let f : ℕ → List A = λ i. g i ∷ [] in
    let x = rest_of f n r l in
    let e : r ≡ length (joined f r) + 0 = let i = length_joined f 1 (λ j. refl) r in omega (arith, i) in
    rw (x.is, append_assoc (joined f r ++ f r) x.rest t, append_assoc (joined f r) (f r) (x.rest ++ t))
    (ap (λ i. get_or (joined f r ++ (g r ∷ (x.rest ++ t))) i d) e ∙ get_or-append-add (joined f r) (g r ∷ (x.rest ++ t)) 0 d)

pub element_turn : {A : Type 0} (g : ℕ → A) (o : List A) (n : ℕ) {d : List A} {x : A} → d ≡ paste o 0 (joined (λ r. g r ∷ []) n) → x ≡ g n → n < length o
    → set d n x ≡ paste o 0 (joined (λ r. g r ∷ []) (n + 1))
element_turn {A} g o n {d} {x} p q h =
    let f : ℕ → List A = λ r. g r ∷ [] in
    let l : length d ≡ length o = ap length p ∙ length_stored f 1 (λ r. refl) o 0 n (omega arith) in
    paste_sets d (x ∷ []) n (omega arith) ∙ rw (p, q) (store_next f 1 (λ r. refl) o 0 n n (omega arith) (omega arith))
