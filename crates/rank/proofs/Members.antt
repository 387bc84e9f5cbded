-- Membership, and relations between the elements of a list.
use mathlib.Core.Path.{◌≡◌, refl, sym, subst}
use mathlib.Core.Logic.{◌⊎◌, inl, inr, ⊎_elim, ⊎_map}
use mathlib.Core.List.{List, [], ◌∷◌, ◌++◌, map}
use Prim.Native.Nat.{ℕ, zero, suc, ◌≤◌, ◌<◌}
use native.Mathlib.Omega.{arith}
use lib.ListN.{length, take, drop, get_or}
use lib.Seq.{take-take}
use Rattle.rank.specs.Sort.{◌∈◌, Pairwise, Distinct}

module _ {A : Type 0} where
  -- an element under another name
  pub mem_along : {x y : A} (l : List A) → x ≡ y → x ∈ l → y ∈ l
  mem_along l e h = subst (λ (z : A). z ∈ l) e h

  pub mem_take : (z : A) (k : ℕ) (xs : List A) → z ∈ take k xs → z ∈ xs
  mem_take z zero xs h = absurd h
  mem_take z (suc k) [] h = h
  mem_take z (suc k) (x ∷ xs) (inl e) = inl e
  mem_take z (suc k) (x ∷ xs) (inr h) = inr (mem_take z k xs h)

  pub take_mono : (z : A) (j k : ℕ) (xs : List A) → j ≤ k → z ∈ take j xs → z ∈ take k xs
  take_mono z j k xs h m = mem_take z j (take k xs) (rw (take-take j k xs h) m)

  pub mem_drop : (z : A) (k : ℕ) (xs : List A) → z ∈ drop k xs → z ∈ xs
  mem_drop z zero xs h = h
  mem_drop z (suc k) [] h = h
  mem_drop z (suc k) (x ∷ xs) h = inr (mem_drop z k xs h)

  pub apart : (z : A) (k : ℕ) (xs : List A) → Distinct xs → z ∈ take k xs → z ∈ drop k xs → ⊥
  apart z zero xs d h m = h
  apart z (suc k) [] d h m = h
  apart z (suc k) (x ∷ xs) d (inl e) m = d.0 z (mem_drop z k xs m) (sym e)
  apart z (suc k) (x ∷ xs) d (inr h) m = apart z k xs d.1 h m

  pub mem-get_or : (xs : List A) (i : ℕ) (d : A) → i < length xs → get_or xs i d ∈ xs
  mem-get_or [] i d h = omega arith
  mem-get_or (x ∷ xs) zero d h = inl refl
  mem-get_or (x ∷ xs) (suc i) d h = inr (mem-get_or xs i d (omega arith))

  -- what holds at each place holds of each element
  pub all-at : (P : A → Type 0) (xs : List A) (d : A) → ((i : ℕ) → i < length xs → P (get_or xs i d)) → (z : A) → z ∈ xs → P z
  all-at P [] d f z m = absurd m
  all-at P (x ∷ xs) d f z (inl e) = rw e (f 0 (omega arith))
  all-at P (x ∷ xs) d f z (inr m) = all-at P xs d (λ i l. f (suc i) (omega arith)) z m

  pub mem_snoc : (z : A) (xs : List A) (x : A) → z ∈ (xs ++ x ∷ []) → (z ∈ xs) ⊎ (z ≡ x)
  mem_snoc z [] x (inl e) = inr e
  mem_snoc z [] x (inr m) = absurd m
  mem_snoc z (y ∷ ys) x (inl e) = inl (inl e)
  mem_snoc z (y ∷ ys) x (inr m) = ⊎_map inr (λ e. e) (mem_snoc z ys x m)

  pub snoc_mem : (z : A) (xs : List A) (x : A) → (z ∈ xs) ⊎ (z ≡ x) → z ∈ (xs ++ x ∷ [])
  snoc_mem z [] x (inl m) = absurd m
  snoc_mem z [] x (inr e) = inl e
  snoc_mem z (y ∷ ys) x (inl (inl e)) = inl e
  snoc_mem z (y ∷ ys) x (inl (inr m)) = inr (snoc_mem z ys x (inl m))
  snoc_mem z (y ∷ ys) x (inr e) = inr (snoc_mem z ys x (inr e))

  pub pairwise_map : {R S : A → A → Type 0} → ((x y : A) → R x y → S x y) → (xs : List A) → Pairwise R xs → Pairwise S xs
  pairwise_map f [] p = tt
  pairwise_map f (x ∷ xs) p = (λ y m. f x y (p.0 y m), pairwise_map f xs p.1)

  pub pairwise_take : (R : A → A → Type 0) (k : ℕ) (xs : List A) → Pairwise R xs → Pairwise R (take k xs)
  pairwise_take R zero xs p = tt
  pairwise_take R (suc k) [] p = tt
  pairwise_take R (suc k) (x ∷ xs) p = (λ y m. p.0 y (mem_take y k xs m), pairwise_take R k xs p.1)

  pub pairwise_snoc : (R : A → A → Type 0) (xs : List A) (x : A) → Pairwise R xs → ((y : A) → y ∈ xs → R y x) → Pairwise R (xs ++ x ∷ [])
  pairwise_snoc R [] x p h = (λ y m. absurd m, tt)
  pairwise_snoc R (y ∷ ys) x p h = (
    λ z m. ⊎_elim (p.0 z) (λ e. rw e (h y (inl refl))) (mem_snoc z ys x m),
    pairwise_snoc R ys x p.1 (λ z m. h z (inr m)),
  )

  pub pairwise_at : (R : A → A → Type 0) (xs : List A) (d : A) → Pairwise R xs → (i j : ℕ) → i < j → j < length xs → R (get_or xs i d) (get_or xs j d)
  pairwise_at R [] d p i j h l = absurd (omega arith)
  pairwise_at R (x ∷ xs) d p i zero h l = absurd (omega arith)
  pairwise_at R (x ∷ xs) d p zero (suc j) h l = p.0 (get_or xs j d) (mem-get_or xs j d (omega arith))
  pairwise_at R (x ∷ xs) d p (suc i) (suc j) h l = pairwise_at R xs d p.1 i j (omega arith) (omega arith)

-- a map of the first k
pub take_map : {A B : Type 0} (f : A → B) (k : ℕ) (xs : List A) → take k (map f xs) ≡ map f (take k xs)
take_map f zero xs = refl
take_map f (suc k) [] = refl
take_map f (suc k) (x ∷ xs) = rw (take_map f k xs)
