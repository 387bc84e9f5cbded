-- The slices that are lent, by other names.
use mathlib.Core.Path.{◌≡◌}
use mathlib.Core.List.{List, [], ◌∷◌}
use Prim.Native.Nat.{ℕ}
use native.Mathlib.Omega.{arith}
use lib.Ieee.{Float}
use lib.ListN.{length}
use Rattle.search_spec.specs.Lent.{Answers, Work, answers_of, work_of}

-- a working slice for no ids stays empty
pub no-ids : {keys candidates ids : List ℕ} {w : Work} → length ids ≡ 0 → work_of keys candidates ids ≡ w → work_of keys candidates [] ≡ w
no-ids {ids = []} e h = h
no-ids {ids = x ∷ ids} e h = absurd (omega arith)

-- what stands in the slices at the end, by other names
pub answers_end : {i j : List ℕ} {d e : List Float} {r s : List ℕ} {t u : List ℕ} {l m : List ℕ} {a : Answers} → answers_of j e s u m ≡ a
    → i ≡ j → d ≡ e → r ≡ s → t ≡ u → l ≡ m → answers_of i d r t l ≡ a
answers_end h i d r t l = rw (i, d, r, t, l) h

pub work_end : {k l : List ℕ} {c d : List ℕ} {i j : List ℕ} {w : Work} → work_of l d j ≡ w → k ≡ l → c ≡ d → i ≡ j → work_of k c i ≡ w
work_end h k c i = rw (k, c, i) h
