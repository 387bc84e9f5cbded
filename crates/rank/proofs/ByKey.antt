-- `by_key` is the order by key and then by row, and total.
use mathlib.Core.Path.{◌≡◌, sym, ◌∙◌}
use mathlib.Core.Bool.{true, false, cond}
use Prim.Native.Nat.{ℕ, ◌≤◌}
use native.Mathlib.Omega.{arith}
use lib.Dec.{leb, ltb}
use borrow.Author.Tests.{ltb-true, ltb-false, le-ltb, le-leb, lt-leb, eq-eqb, ne_eqb}
use Rattle.rank.specs.Sort.{TotalOrder}
use Rattle.rank.specs.Limit.{by_key}
use Rattle.le.proofs.Chain.{by}
use Rattle.rank.proofs.Lex.{lex-order, lex_not_after}

ltb_one_way : (x y : ℕ) → ltb x y ≡ true → ltb y x ≡ false
ltb_one_way x y h = le-ltb y x (omega (arith, ltb-true x y h))

ltb_chain : (x y z : ℕ) → ltb x y ≡ false → ltb y z ≡ false → ltb x z ≡ false
ltb_chain x y z h k = le-ltb x z (omega (arith, ltb-false x y h, ltb-false y z k))

module _ (key : ℕ → ℕ) where
  pub key-lex : (r s : ℕ) → by_key key r s ≡ cond (ltb (key r) (key s)) true (cond (ltb (key s) (key r)) false (leb r s))
  unfolding by_key
  key-lex r s =
      let k : ℕ = key r in
      let l : ℕ = key s in
      by (ltb k l)
      (λ e. let h = ltb-true k l e in rw (e, ne_eqb k l (λ q. omega arith)) (le-leb k l (omega arith)))
      (λ e. by (ltb l k)
      (λ f. let h = ltb-true l k f in rw (e, f, ne_eqb k l (λ q. omega arith)) (lt-leb k l h))
      (λ f. rw (e, f, eq-eqb k l (omega (arith, ltb-false k l e, ltb-false l k f)))))

  pub key-rises : (r s : ℕ) → by_key key r s ≡ true → key r ≤ key s
  key-rises r s h = ltb-false (key s) (key r) (lex_not_after ltb ltb_one_way ltb_chain key (λ r. r) r s (sym (key-lex r s) ∙ h))

  pub order : TotalOrder (by_key key)
  order =
      let O = lex-order ltb ltb_one_way ltb_chain key (λ r. r) (λ r s e. e) in
      record {
        trans = λ {x} {y} {z} p q. key-lex x z ∙ O.trans (sym (key-lex x y) ∙ p) (sym (key-lex y z) ∙ q);
        antisym = λ {x} {y} p q. O.antisym (sym (key-lex x y) ∙ p) (sym (key-lex y x) ∙ q);
        total = λ {x} {y} p. key-lex y x ∙ O.total (sym (key-lex x y) ∙ p);
      }
