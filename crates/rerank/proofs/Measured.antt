-- A loop over rows in their order: those before i are not refused, and their keys stand in ks.
use mathlib.Core.Path.{◌≡◌, refl, sym, ap, ◌∙◌}
use mathlib.Core.List.{List, map, map-append}
use mathlib.Core.Logic.{⊎_elim}
use Prim.Native.Nat.{ℕ, zero, suc, ◌+◌, ◌≤◌, ◌<◌}
use native.Mathlib.Numerals.{add-one}
use native.Mathlib.Omega.{arith}
use borrow.Author.Tests.{eq-eqb}
use lib.Ieee.{Float}
use lib.ListN.{length, get_or, set, take, length-set}
use lib.Seq.{take-suc, take-suc-set, take_all}
use Rattle.std.specs.Prelude.{Some}
use Rattle.le.proofs.Chain.{lt_or_le}
use Rattle.config.specs.Refusal.{Refusal, none}
use Rattle.config.proofs.Refusals.{is-other}
use Rattle.format.proofs.First.{Reached, reached_start, reached_turn}
use Rattle.format.proofs.Refusals.{passes, refusal-stop, refusal-end}
use Rattle.search_spec.specs.Scan.{record_refusal}
use Rattle.rerank.specs.Rerank.{keys_set, key_at, FourIs, MeasureIs}

-- ---- the first refusal
module _ (m s : List ℕ) (q : List Float) (rows : List ℕ) where
  abbrev refusal_at : ℕ → Refusal
  refusal_at i = record_refusal m s q (get_or rows i 0)

  reached : (i : ℕ) → i ≤ length rows → ((j : ℕ) → j < i → (refusal_at j).number ≡ 0) → Reached (passes refusal_at) (length rows) i
  reached zero h p = reached_start (passes refusal_at) (length rows)
  reached (suc i) h p =
      rw (add-one i) at (reached_turn (omega arith) (eq-eqb (refusal_at i).number 0 (p i (omega arith))) (reached i (omega arith) (λ j l. p j (omega arith))))

-- ---- the keys: by the manifest m and the segments s, against the query q, the records of the first i rows are not refused, and ks has their keys
pub record KeysTo (m s : List ℕ) (q : List Float) (rows : List ℕ) (i : ℕ) (ks : List ℕ) : Type 0 where
  pub passed : (j : ℕ) → j < i → (record_refusal m s q (get_or rows j 0)).number ≡ 0
  pub keys : take i ks ≡ map (key_at m s q) (take i rows)

module _ {m s : List ℕ} {q : List Float} {rows : List ℕ} where
  -- one row more
  keys-more : {i j k : ℕ} {ks : List ℕ} → j ≡ i + 1 → i < length rows → i < length ks
      → (record_refusal m s q (get_or rows i 0)).number ≡ 0 → k ≡ key_at m s q (get_or rows i 0) → KeysTo m s q rows i ks → KeysTo m s q rows j (set ks i k)
  keys-more {i} {j} {k} {ks} n h l z e K =
      rw (n, add-one i)
      (record {
        passed = λ p u. ⊎_elim (K.passed p) (λ g. let f : p ≡ i = omega arith in rw f z) (lt_or_le p i);
        keys = take-suc-set ks i k l ∙ rw (K.keys, take-suc rows i 0 h, map-append, e);
      })

  -- four rows more
  pub keys_four : {i : ℕ} {ks : List ℕ} {x : List Float} → KeysTo m s q rows i ks → FourIs m s q rows i (Some x) → length ks ≡ length rows
      → KeysTo m s q rows (i + 4) (keys_set ks i x)
  unfolding key_at
  keys_four {i} {ks} {x} K F l =
      let h = F.room refl in
      let p = F.passed refl in
      rw (F.values refl).0
      (keys-more (omega arith) (omega arith) (simp length-set (omega arith)) (p (i + 3) (omega arith) (omega arith)) refl
      (keys-more (omega arith) (omega arith) (simp length-set (omega arith)) (p (i + 2) (omega arith) (omega arith)) refl
      (keys-more (omega arith) (omega arith) (simp length-set (omega arith)) (p (i + 1) (omega arith) (omega arith)) refl
      (keys-more refl (omega arith) (omega arith) (p i (omega arith) (omega arith)) refl K))))

  module _ {i : ℕ} {ks : List ℕ} (K : KeysTo m s q rows i ks) where
    -- row i is refused,
    pub refuses : {f : Refusal} → i < length rows → (f.number ≡ 0 → ⊥) → f ≡ refusal_at m s q rows i → MeasureIs m s q rows (record { refusal = f; measured = 0 }) ks
    refuses {f} h z e =
        record {
          refusal = e ∙ refusal-stop (refusal_at m s q rows) (length rows) h (rw e at z) (reached m s q rows i (omega arith) K.passed);
          measured = sym (is-other f (length rows) 0 z);
          keys = λ y. absurd (z y);
        }

    -- or all are measured
    pub measured_all : {n : ℕ} → n ≡ i → i ≤ length rows → length rows ≤ i → length ks ≡ length rows → MeasureIs m s q rows (record { refusal = none; measured = n }) ks
    measured_all e h g l =
        record {
          refusal = refusal-end (refusal_at m s q rows) (length rows) g h (reached m s q rows i h K.passed);
          measured = omega arith;
          keys = λ z. sym (take_all i ks (omega arith)) ∙ K.keys ∙ ap (map (key_at m s q)) (take_all i rows g);
        }
