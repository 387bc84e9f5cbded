-- What a bounded heap keeps of one element more.
use mathlib.Core.Path.{◌≡◌, refl, sym, ap, ◌∙◌}
use mathlib.Core.Logic.{inr, ◌≢◌}
use mathlib.Core.List.{List, [], ◌∷◌, ◌++◌}
use Prim.Native.Nat.{ℕ, ◌+◌, ◌≤◌, ◌<◌, min}
use native.Mathlib.Numerals.{add-one}
use native.Mathlib.Omega.{arith}
use lib.Dec.{leb}
use lib.ListN.{length, get_or, set, take, drop, length-set, length-take, length-append, drop_of_length-le}
use lib.Seq.{take-suc-set, take_all, take-length, take-nil, drop-set-lt}
use borrow.Author.Tests.{lt-leb}
use Rattle.rank.specs.Sort.{insert, sort, least}
use Rattle.rank.specs.Heap.{HeapFrom, Sifted, Built, BestKept}
use Rattle.rank.proofs.Sort.{length_insert, length_sort, sort_snoc}
use Rattle.rank.proofs.Least.{keep_less, keep-more, least_snoc}
use Rattle.rank.proofs.Numbers.{leb_order}
use Rattle.rank.proofs.Down.{all-top}

room : (a : List ℕ) (n x : ℕ) → n < length a → sort leb (take (n + 1) (set a n x)) ≡ take (length a) (insert leb x (sort leb (take n a)))
room a n x h =
    let s : List ℕ = sort leb (take n a) in
    rw (add-one, take-suc-set a n x h, sort_snoc leb leb_order (take n a) x)
    (sym (take_all (length a) (insert leb x s) (omega (arith, length_insert leb x s, length_sort leb (take n a), length-take n a))))

past : (a b : List ℕ) (n : ℕ) → length a ≤ n → length b ≤ n → drop n b ≡ drop n a
past a b n h k = drop_of_length-le b k ∙ sym (drop_of_length-le a h)

pub stored : (a : List ℕ) (n x : ℕ) → n < length a → n + 1 ≢ length a → BestKept a n x (set a n x) (n + 1)
stored a n x h k = record {
  count = omega arith;
  kept = room a n x h;
  heap = λ e. absurd (omega (arith, length-set a n x));
  rest = drop-set-lt (n + 1) a n x (omega arith);
}

pub built : (a : List ℕ) (n x : ℕ) (b : List ℕ) → n < length a → n + 1 ≡ length a → length b ≡ length a
    → Built (set a n x) b → BestKept a n x b (n + 1)
built a n x b h k m B = record {
  count = omega arith;
  kept = ap (sort leb) (take_all (n + 1) b (omega arith)) ∙ B.same
      ∙ sym (ap (sort leb) (take_all (n + 1) (set a n x) (omega (arith, length-set a n x)))) ∙ room a n x h;
  heap = λ e. B.heap;
  rest = past a b (n + 1) (omega arith) (omega arith);
}

pub replaced : (a : List ℕ) (n x : ℕ) (b : List ℕ) → n ≤ length a → length a ≤ n → 0 < length a → length b ≡ length a
    → HeapFrom 0 a → x < get_or a 0 0 → Sifted a 0 x b → BestKept a n x b (length a)
replaced [] n x b i j k m H l P = absurd (omega arith)
replaced (y ∷ t) n x b i j k m H l P = record {
  count = omega arith;
  kept = ap (sort leb) (take_all (length (y ∷ t)) b (omega arith)) ∙ P.same
      ∙ sym (keep_less leb x y t (λ z m. all-top (y ∷ t) y H (λ s. omega arith) z (inr m)) (lt-leb y x l))
      ∙ ap (λ s. take (length (y ∷ t)) (insert leb x (sort leb s))) (sym (take_all n (y ∷ t) j));
  heap = λ e. P.heap;
  rest = past (y ∷ t) b (length (y ∷ t)) (omega arith) (omega arith);
}

pub passed : (a : List ℕ) (n x : ℕ) → n ≤ length a → length a ≤ n → HeapFrom 0 a → (0 < length a → get_or a 0 0 ≤ x) → BestKept a n x a (length a)
passed a n x i j H l = record {
  count = omega arith;
  kept = ap (sort leb) (take-length a) ∙ sym (keep-more leb x a (all-top a x H l))
      ∙ ap (λ s. take (length a) (insert leb x (sort leb s))) (sym (take_all n a j));
  heap = λ e. H;
  rest = refl;
}

-- For a loop over `keep_best`: a keeps, in its first n places, the least of xs that it has room for.
pub record Holds (xs a : List ℕ) (n : ℕ) : Type 0 where
  pub count : n ≡ min (length a) (length xs)
  pub kept : sort leb (take n a) ≡ least leb (length a) xs
  pub heap : n ≡ length a → HeapFrom 0 a

pub nothing : (a : List ℕ) → Holds [] a 0
unfolding sort least
nothing a = record { count = omega arith; kept = sym (take-nil (length a)); heap = λ e. record { at = λ p c l k i. absurd (omega arith) } }

pub more : (xs a : List ℕ) (n x : ℕ) (b : List ℕ) (r : ℕ) → Holds xs a n → BestKept a n x b r → length b ≡ length a → Holds (xs ++ x ∷ []) b r
unfolding least
more xs a n x b r H K l = record {
  count = omega (arith, H.count, K.count, length-append xs (x ∷ []));
  kept = K.kept ∙ ap (λ s. take (length a) (insert leb x s)) H.kept ∙ sym (least_snoc leb leb_order (length a) xs x)
      ∙ ap (λ n. least leb n (xs ++ x ∷ [])) (sym l);
  heap = K.heap;
}
