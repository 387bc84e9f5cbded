-- The ids handed in, as they are looked up: in order, at the front of the id slice.
use mathlib.Core.Path.{◌≡◌, refl, ap, ◌∙◌}
use mathlib.Core.List.{List, ◌++◌}
use Prim.Native.Nat.{ℕ}
use denote.Bor.{Bor}
use lib.ListN.{take}
use Rattle.std.specs.Prelude.{Option, Some, None}
use Rattle.std.specs.Option.{option_and}
use Rattle.search_spec.specs.Lent.{wanted_of, handed, everyone}
use Rattle.search_spec.specs.Lists.{is_eligible, eligible}
use Rattle.eligible.specs.Walk.{Sorted, in_order, sorted_ids}
use Rattle.eligible.proofs.Walk.{front, ordered_same, ordered-rows, ordered-rises}

-- r is w in order
pub record Ordered (w r : Option (Bor (List ℕ))) : Type 0 where
  pub rises : Sorted (wanted_of r)
  pub same : (m : List ℕ) → is_eligible (wanted_of r) everyone m ≡ is_eligible (wanted_of w) everyone m
  pub rows : (m : List ℕ) → eligible (wanted_of r) everyone m ≡ eligible (wanted_of w) everyone m

-- as it is lent: b is the front of the slice, n elements
chosen : (w : Option (Bor (List ℕ))) (b : Bor (List ℕ)) → b.now ≡ sorted_ids (wanted_of w) → wanted_of (option_and w (Some b)) ≡ in_order (wanted_of w)
chosen None b h = refl
chosen (Some ids) b h = rw h refl

pub ordered : (w : Option (Bor (List ℕ))) (b : Bor (List ℕ)) (t : List ℕ) {r : Option (Bor (List ℕ))} {n : ℕ} {work : List ℕ}
    → n ≡ handed (wanted_of w) → work ≡ sorted_ids (wanted_of w) ++ t → b.now ≡ take n work → r ≡ option_and w (Some b) → Ordered w r
ordered w b t {r} {n} {work} e s f h =
    let q : wanted_of r ≡ in_order (wanted_of w) = ap wanted_of h ∙ chosen w b (f ∙ rw (e, s) (front (wanted_of w) t)) in
    record {
      rises = rw q (ordered-rises (wanted_of w));
      same = λ m. rw q (ordered_same (wanted_of w) everyone m);
      rows = λ m. rw q (ordered-rows (wanted_of w) everyone m);
    }
