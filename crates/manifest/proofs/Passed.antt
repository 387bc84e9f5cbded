-- What an accepted manifest has passed.
use mathlib.Core.Path.{◌≡◌, refl}
use mathlib.Core.Bool.{true, cond}
use mathlib.Core.List.{List}
use Prim.Native.Nat.{ℕ, ◌+◌, ◌≤◌}
use lib.Dec.{leb, eqb}
use lib.ListN.{length}
use borrow.Author.Tests.{leb-true, le-leb, eqb-false, eq-eqb}
use Rattle.le.proofs.Chain.{by, held}
use Rattle.config.proofs.Refusals.{not_zero}
use Rattle.format.specs.Fields.{length_of_model, rows_of}
use Rattle.format.specs.Head.{opens_ok, kind_ok, identity_ok, counts_ok, head_number}
use Rattle.format.proofs.Refusals.{or_else_lem, or_else_not}
use Rattle.entries.specs.Plan.{rows_ok, crc_ok, plan_number}
use Rattle.manifest.specs.Tiling.{tiled}
use Rattle.manifest.specs.Scratch.{Filled}
use Rattle.manifest.proofs.Keys.{take_ordered, length_ordered}
use Rattle.le.specs.Le.{zeros}
use Rattle.manifest.specs.Check.{manifest_number, scratch_left, scratch_held}

pub record Planned (m : List ℕ) (expected room : ℕ) : Type 0 where
  pub head : head_number m ≡ 0
  pub rows : rows_ok m ≡ true
  pub crc : crc_ok m expected ≡ true
  pub roomy : rows_of m ≤ room

pub planned : (m : List ℕ) (expected room : ℕ) → plan_number m expected room ≡ 0 → Planned m expected room
unfolding plan_number
planned m expected room h =
    let a = or_else_lem (head_number m) (cond (rows_ok m) (cond (crc_ok m expected) (cond (leb (rows_of m) room) 0 11) 3) 1) h in
    let b = held (rows_ok m) not_zero a.1 in
    let c = held (crc_ok m expected) not_zero b.1 in
    let d = held (leb (rows_of m) room) not_zero c.1 in
    record { head = a.0; rows = b.0; crc = c.0; roomy = leb-true (rows_of m) room d.0 }

pub plans : {m : List ℕ} {expected room : ℕ} → Planned m expected room → plan_number m expected room ≡ 0
unfolding plan_number
plans {m} {expected} {room} p = rw (eq-eqb (head_number m) 0 p.head, p.rows, p.crc, le-leb (rows_of m) room p.roomy)

pub accepted : (m : List ℕ) (expected room : ℕ) → manifest_number m expected room ≡ 0 → Planned m expected room × (tiled m ≡ true)
unfolding manifest_number
accepted m expected room h =
    let a = or_else_lem (plan_number m expected room) (cond (tiled m) 0 4) h in
    (planned m expected room a.0, (held (tiled m) not_zero a.1).0)

-- the scratch of an accepted manifest, cleared; and that of a refused one
pub cleared : (m : List ℕ) (expected : ℕ) (t : List ℕ) → manifest_number m expected (length t) ≡ 0 → zeros t ≡ scratch_left m expected t
unfolding manifest_number scratch_left
cleared m expected t h =
    let a = or_else_lem (plan_number m expected (length t)) (cond (tiled m) 0 4) h in
    rw (eq-eqb (plan_number m expected (length t)) 0 a.0)

pub left : (m : List ℕ) (expected : ℕ) (t : List ℕ) → (manifest_number m expected (length t) ≡ 0 → ⊥) → scratch_held m expected t ≡ scratch_left m expected t
unfolding manifest_number scratch_left scratch_held
left m expected t h =
    by (eqb (plan_number m expected (length t)) 0)
    (λ e. by (tiled m) (λ f. absurd (h (rw (e, f)))) (λ f. rw (e, f)))
    (λ e. rw e)

-- an accepted manifest's scratch begins with its rows in order
pub filled : (m : List ℕ) (expected : ℕ) (t : List ℕ) → manifest_number m expected (length t) ≡ 0 → Filled m (scratch_held m expected t)
unfolding manifest_number scratch_held
filled m expected t h =
    let a = accepted m expected (length t) h in
    let p = (or_else_lem (plan_number m expected (length t)) (cond (tiled m) 0 4) h).0 in
    let r = a.0.roomy in
    rw (eq-eqb (plan_number m expected (length t)) 0 p, a.1) (record { head = a.0.head; rows = a.0.rows; room = rw (length_ordered m t r) r; order = take_ordered m t })

-- an accepted manifest is accepted with every scratch that is long enough
pub other-room : (m : List ℕ) (expected room other : ℕ) → manifest_number m expected room ≡ 0 → rows_of m ≤ other → manifest_number m expected other ≡ 0
unfolding manifest_number
other-room m expected room other h f =
    let a = accepted m expected room h in
    let p = a.0 in
    rw (eq-eqb (plan_number m expected other) 0 (plans (record { head = p.head; rows = p.rows; crc = p.crc; roomy = f })), a.1)

-- ---- no test of the manifest has the number 5
head_not_5 : (m : List ℕ) → head_number m ≡ 5 → ⊥
unfolding head_number
head_not_5 m h =
    let a = held (opens_ok m) (eqb-false 1 5 refl) h in
    let b = held (kind_ok m) (eqb-false 2 5 refl) a.1 in
    let c = held (leb (53 + length_of_model m) (length m)) (eqb-false 1 5 refl) b.1 in
    let d = held (identity_ok m) (eqb-false 2 5 refl) c.1 in
    eqb-false 0 5 refl (held (counts_ok m) (eqb-false 1 5 refl) d.1).1

plan_not_5 : (m : List ℕ) (expected room : ℕ) → plan_number m expected room ≡ 5 → ⊥
unfolding plan_number
plan_not_5 m expected room h =
    or_else_not (head_number m) (cond (rows_ok m) (cond (crc_ok m expected) (cond (leb (rows_of m) room) 0 11) 3) 1) 5 (head_not_5 m)
    (λ k. let a = held (rows_ok m) (eqb-false 1 5 refl) k in
    let b = held (crc_ok m expected) (eqb-false 3 5 refl) a.1 in
    eqb-false 0 5 refl (held (leb (rows_of m) room) (eqb-false 11 5 refl) b.1).1) h

pub manifest_not_5 : (m : List ℕ) (expected room : ℕ) → manifest_number m expected room ≡ 5 → ⊥
unfolding manifest_number
manifest_not_5 m expected room h =
    or_else_not (plan_number m expected room) (cond (tiled m) 0 4) 5 (plan_not_5 m expected room)
    (λ k. eqb-false 0 5 refl (held (tiled m) (eqb-false 4 5 refl) k).1) h
