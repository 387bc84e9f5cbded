-- The head that a check hands out: the head test of a search against it is document 01's sentence on 21 (readings R3).
use mathlib.Core.Path.{◌≡◌}
use mathlib.Core.Bool.{true}
use mathlib.Core.Logic.{◌↔◌}
use mathlib.Core.List.{List}
use Prim.Native.Nat.{ℕ}
use Rattle.le.proofs.LeLaws.{AllBytes}
use Rattle.config.specs.Refusal.{Refusal}
use Rattle.config.proofs.Refusals.{is_done}
use Rattle.format.specs.Head.{head_at, zero_head}
use Rattle.format.specs.Same.{is_same_head}
use Rattle.format.specs.declared.Head.{Head}
use Rattle.format.proofs.Same.{Unchanged, same-head_law}
use Rattle.manifest.specs.Check.{manifest_number, checked_by, checked}
use Rattle.manifest.proofs.Passed.{accepted}

module _ (m m₀ : List ℕ) (b : AllBytes m) (b₀ : AllBytes m₀) (expected room : ℕ) where
  -- of a manifest that is accepted
  pub accepted-head : (h : Head) → manifest_number m₀ expected room ≡ 0 → h ≡ head_at m₀ → (is_same_head m h ≡ true) ↔ Unchanged m m₀
  accepted-head h n e = same-head_law m m₀ h b b₀ (accepted m₀ expected room n).0.head e

  -- as any check answers it
  pub answered-head : (r : Refusal) → manifest_number m₀ expected room ≡ 0 → r.number ≡ 0 → (is_same_head m (checked_by m₀ r).head ≡ true) ↔ Unchanged m m₀
  unfolding checked_by
  answered-head r n e = accepted-head (checked_by m₀ r).head n (is_done r (head_at m₀) zero_head e)

  pub checked-head : (checked m₀ expected room).refusal.number ≡ 0 → (is_same_head m (checked m₀ expected room).head ≡ true) ↔ Unchanged m m₀
  unfolding checked_by
  checked-head n = answered-head (checked m₀ expected room).refusal n n
