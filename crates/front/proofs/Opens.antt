-- What the tests of ids and head say of the manifest's head.
use mathlib.Core.Path.{◌≡◌, sym}
use mathlib.Core.List.{List}
use Prim.Native.Nat.{ℕ}
use Rattle.le.proofs.Chain.{held}
use Rattle.config.proofs.Refusals.{not_zero}
use Rattle.format.specs.Head.{head_number}
use Rattle.format.specs.declared.Head.{Head}
use Rattle.format.proofs.Same.{same_parts}
use Rattle.search_spec.specs.Tests.{ids_ok, head_ok, open_by}

pub opens_head : (head : Head) (m : List ℕ) (ids : ℕ) → 0 ≡ open_by head m ids → head_number m ≡ 0
unfolding open_by
opens_head head m ids h = (same_parts m head (held (head_ok head m) not_zero (held (ids_ok ids) not_zero (sym h)).1).0).0
