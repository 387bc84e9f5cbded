-- (distance, id) order is total, NaNs included, and where distances are numbers and ids rise with rows it is (key, row)
-- order: the key's order is totalOrder's. So the limit theorem holds in document 01's own order.
use mathlib.Core.Path.{◌≡◌, refl, sym, ◌∙◌}
use mathlib.Core.Bool.{Bool, true, false, not}
use mathlib.Core.List.{List}
use Prim.Native.Nat.{ℕ, ◌<◌}
use native.Mathlib.Omega.{arith}
use lib.Dec.{T, leb, ltb}
use borrow.Author.Tests.{ltb-true, ltb-false, le-leb, lt-leb}
use lib.Ieee.{Float, binary64, fits, is_nan}
use Rattle.float.specs.Order.{total_below, keyed}
use Rattle.float.proofs.Keys.{key_below}
use Rattle.float.proofs.Total.{below_one_way, not_below-trans}
use Rattle.le.proofs.Chain.{by}
use Rattle.rank.specs.Sort.{◌∈◌, Pairwise, TotalOrder, least}
use Rattle.rank.specs.Limit.{by_key, LimitTheorem}
use Rattle.rank.specs.Order.{by_distance}
use Rattle.rank.proofs.Lex.{lex-trans, lex-total, lex-order}
use Rattle.rank.proofs.ByKey.{key-lex}
use Rattle.rank.proofs.Agree.{Agree, least_agree, limits_agree}
use Rattle.rank.proofs.Limit.{limit_theorem, rising_once}

-- ---- total, whatever the distances

module _ (distance : ℕ → Float) (id : ℕ → ℕ) where
  pub distance-trans : (r s t : ℕ) → by_distance distance id r s ≡ true → by_distance distance id s t ≡ true → by_distance distance id r t ≡ true
  unfolding by_distance
  distance-trans = lex-trans total_below below_one_way not_below-trans distance id

  pub distance-total : (r s : ℕ) → by_distance distance id r s ≡ false → by_distance distance id s r ≡ true
  unfolding by_distance
  distance-total = lex-total total_below below_one_way not_below-trans distance id

  pub distance-order : ((r s : ℕ) → id r ≡ id s → r ≡ s) → TotalOrder (by_distance distance id)
  unfolding by_distance
  distance-order = lex-order total_below below_one_way not_below-trans distance id

-- ---- where ids rise with rows

-- ids rise with the rows of a list
abbrev pub Rising : (ℕ → ℕ) → List ℕ → Type 0
Rising id rows = (r s : ℕ) → r ∈ rows → s ∈ rows → r < s → id r < id s

module _ (distance : ℕ → Float) (id : ℕ → ℕ) where
  -- the rows' order is the ids'
  same-order : (r s : ℕ) → (r < s → id r < id s) → (s < r → id s < id r) → leb r s ≡ leb (id r) (id s)
  same-order r s up down =
      by (ltb s r)
      (λ e. let h = ltb-true s r e in let k = down h in lt-leb r s h ∙ sym (lt-leb (id r) (id s) k))
      (λ e. by (ltb r s)
      (λ f. let h = ltb-true r s f in let k = up h in le-leb r s (omega arith) ∙ sym (le-leb (id r) (id s) (omega arith)))
      (λ f. let q : r ≡ s = omega (arith, ltb-false s r e, ltb-false r s f) in rw q (le-leb s s (omega arith) ∙ sym (le-leb (id s) (id s) (omega arith)))))

  rows_agree : (rows : List ℕ) → Rising id rows → Agree (by_distance distance (λ r. r)) (by_distance distance id) rows
  unfolding by_distance
  rows_agree rows up r s a b = rw (same-order r s (up r s a b) (up s r b a))

  -- what holds of limits holds by (distance, id), whatever the distances and the approximate order
  pub by_distances : (near : ℕ → ℕ → Bool) (eligible : List ℕ) → Pairwise ◌<◌ eligible → Rising id eligible
      → LimitTheorem near (by_distance distance id) eligible
  by_distances near eligible rising up =
      let by_row : ℕ → ℕ → Bool = by_distance distance (λ r. r) in
      limits_agree near by_row near (by_distance distance id) eligible (λ x y a b. refl) (rows_agree eligible up)
      (limit_theorem near by_row (distance-order distance (λ r. r) (λ r s e. e)) eligible (rising_once eligible rising))

  -- what is asked of a row: its distance is a number that an f64 holds
  pub record Measured (r : ℕ) : Type 0 where
    pub fit : T (fits binary64 (distance r))
    pub number : T (not (is_nan (distance r)))

  pub key_row_lem : (r s : ℕ) → Measured r → Measured s → (r < s → id r < id s) → (s < r → id s < id r)
      → by_key (λ n. keyed (distance n)) r s ≡ by_distance distance id r s
  unfolding by_distance
  key_row_lem r s m n up down =
      let below = key_below (distance r) (distance s) m.fit n.fit m.number n.number in
      let above = key_below (distance s) (distance r) n.fit m.fit n.number m.number in
      key-lex (λ n. keyed (distance n)) r s ∙ rw (below, above, same-order r s up down)

  -- so the k least by (key, row) are the k least by (distance, id)
  pub least-order : (rows : List ℕ) → ((r : ℕ) → r ∈ rows → Measured r) → Rising id rows
      → (k : ℕ) → least (by_key (λ n. keyed (distance n))) k rows ≡ least (by_distance distance id) k rows
  least-order rows m up k =
      least_agree (by_distance distance id) (by_key (λ n. keyed (distance n))) k rows
      (λ r s a b. key_row_lem r s (m r a) (m s b) (up r s a b) (up s r b a))
