-- A table whose entry k is g k: read, and filled from the front.
use mathlib.Core.Path.{◌≡◌, refl, ap, ◌∙◌, sym}
use mathlib.Core.Logic.{⊎_elim}
use mathlib.Core.List.{List, [], ◌∷◌, ◌++◌}
use Prim.Native.Nat.{ℕ, zero, suc, ◌+◌, ◌<◌, ◌≤◌}
use native.Mathlib.Nat.{add-zero, zero-add, add-suc, suc-add, le_of_suc-le-suc, not-suc-le-zero}
use native.Mathlib.Numerals.{add-one}
use native.Mathlib.Omega.{arith}
use lib.ListN.{length, get_or, set, length-set}
use lib.Seq.{ext_get_or, get_or-set_same, get_or-set_other}
use Rattle.le.proofs.Chain.{lt_or_le}
use Rattle.crc32.specs.Tables.{tab, Filled}

from : (g : ℕ → ℕ) (i n k : ℕ) → k < n → get_or (tab g i n) k 0 ≡ g (i + k)
from g i zero k h = absurd (not-suc-le-zero h)
from g i (suc n) zero h = ap g (sym (add-zero i))
from g i (suc n) (suc k) h = from g (suc i) n k (le_of_suc-le-suc h) ∙ ap g (suc-add i k ∙ sym (add-suc i k))

pub at : (g : ℕ → ℕ) (n k : ℕ) → k < n → get_or (tab g 0 n) k 0 ≡ g k
at g n k h = from g 0 n k h ∙ ap g (zero-add k)

pub length_tab : (g : ℕ → ℕ) (i n : ℕ) → length (tab g i n) ≡ n
length_tab g i zero = refl
length_tab g i (suc n) = ap suc (length_tab g (suc i) n)

-- one more at the end
more : (g : ℕ → ℕ) (i n : ℕ) → tab g i (suc n) ≡ tab g i n ++ g (i + n) ∷ []
more g i zero = rw (add-zero i)
more g i (suc n) = ap (λ (l : List ℕ). g i ∷ l) (more g (suc i) n ∙ rw (suc-add i n, add-suc i n))

pub tab-more : (g : ℕ → ℕ) (n : ℕ) → tab g 0 (n + 1) ≡ tab g 0 n ++ g n ∷ []
tab-more g n = ap (tab g 0) (add-one n) ∙ more g 0 n ∙ rw (zero-add n)

module _ {g : ℕ → ℕ} {n : ℕ} where
  pub filled_more : {t : List ℕ} {i v : ℕ} → Filled g n t i → i < n → v ≡ g i → Filled g n (set t i v) (i + 1)
  filled_more {t} {i} {v} f h e = record {
    size = simp length-set f.size;
    upto = λ k l.
        ⊎_elim
        (λ p. get_or-set_other t i k v 0 (omega arith) ∙ f.upto k p)
        (λ p. let q : k ≡ i = omega arith in rw q (get_or-set_same t i v 0 (omega (arith, f.size)) ∙ e))
        (lt_or_le k i);
  }

  pub filled-all : {t : List ℕ} {i : ℕ} → Filled g n t i → n ≤ i → t ≡ tab g 0 n
  filled-all {t} f h =
      let m = f.size in
      ext_get_or 0 t (tab g 0 n) (m ∙ sym (length_tab g 0 n)) (λ k l. f.upto k (omega arith) ∙ sym (at g n k (omega arith)))
