use native.Mathlib.Omega.{arith}
use Prim.Native.Nat.{◌+◌, ◌≤◌}
use lib.ListN.{length}
use borrow.Author.Tests.{le-leb, lt-leb}
use Rattle.format.specs.Fields.{length_of_model}
use Rattle.format.specs.Head.{head_number}
use Rattle.format.proofs.Heads.{length_in, model_in}
use Rattle.format.proofs.check_head.Goals as goal

pub returns-then-not-opens : goal.returns-then-not-opens
unfolding head_number
returns-then-not-opens c =
    let m = c.args.m.now in
    rw ((rw c.opens.ensures at c.if-not-opens.true))

pub returns-then-not-kind_holds : goal.returns-then-not-kind_holds
unfolding head_number
returns-then-not-kind_holds c =
    let m = c.args.m.now in
    rw ((rw c.opens.ensures at c.if-not-opens.false), (rw c.kind_holds.ensures at c.if-not-kind_holds.true))

pub returns-then-m-model : goal.returns-then-m-model
unfolding head_number length_of_model
returns-then-m-model c =
    let m = c.args.m.now in
    let n = c.count_at-model.ensures.0 in
    rw ((rw c.opens.ensures at c.if-not-opens.false), (rw c.kind_holds.ensures at c.if-not-kind_holds.false), lt-leb (53 + length_of_model m) (length m) (rw (n) at c.if-m-model.true))

pub returns-then-not-identity_holds : goal.returns-then-not-identity_holds
unfolding head_number length_of_model
returns-then-not-identity_holds c =
    let m = c.args.m.now in
    let n = c.count_at-model.ensures.0 in
    rw ((rw c.opens.ensures at c.if-not-opens.false), (rw c.kind_holds.ensures at c.if-not-kind_holds.false), le-leb (53 + length_of_model m) (length m) (rw (n) at c.if-m-model.false), (rw c.identity_holds.ensures at c.if-not-identity_holds.true))

pub returns-then-not-counts_hold : goal.returns-then-not-counts_hold
unfolding head_number length_of_model
returns-then-not-counts_hold c =
    let m = c.args.m.now in
    let n = c.count_at-model.ensures.0 in
    rw ((rw c.opens.ensures at c.if-not-opens.false), (rw c.kind_holds.ensures at c.if-not-kind_holds.false), le-leb (53 + length_of_model m) (length m) (rw (n) at c.if-m-model.false), (rw c.identity_holds.ensures at c.if-not-identity_holds.false), (rw c.counts_hold.ensures at c.if-not-counts_hold.true))

pub returns : goal.returns
unfolding head_number length_of_model
returns c =
    let m = c.args.m.now in
    let n = c.count_at-model.ensures.0 in
    rw ((rw c.opens.ensures at c.if-not-opens.false), (rw c.kind_holds.ensures at c.if-not-kind_holds.false), le-leb (53 + length_of_model m) (length m) (rw (n) at c.if-m-model.false), (rw c.identity_holds.ensures at c.if-not-identity_holds.false), (rw c.counts_hold.ensures at c.if-not-counts_hold.false))

-- what the tests before say of the lengths
lengths : (c : goal.Else-m-model) → (66 ≤ length c.args.m.now) × (length c.args.m.now ≤ 67108864)
lengths c = length_in c.args.m.now ((rw c.opens.ensures at c.if-not-opens.false))

-- what the tests before say of the lengths
lengths-2 : (c : goal.Else-not-identity_holds) → (66 ≤ length c.args.m.now) × (length c.args.m.now ≤ 67108864)
lengths-2 c = length_in c.args.m.now ((rw c.opens.ensures at c.if-not-opens.false))

-- what the tests before say of the lengths
lengths-3 : (c : goal.Else-not-opens) → (66 ≤ length c.args.m.now) × (length c.args.m.now ≤ 67108864)
lengths-3 c = length_in c.args.m.now ((rw c.opens.ensures at c.if-not-opens.false))

-- what the tests before say of the lengths
lengths-4 : (c : goal.Else-not-kind_holds) → (66 ≤ length c.args.m.now) × (length c.args.m.now ≤ 67108864)
lengths-4 c = length_in c.args.m.now ((rw c.opens.ensures at c.if-not-opens.false))

model : (c : goal.Else-not-identity_holds) → length_of_model c.args.m.now ≤ 512
model c = (model_in c.args.m.now ((rw c.kind_holds.ensures at c.if-not-kind_holds.false))).1

pub identity_holds-requires : goal.identity_holds-requires
unfolding length_of_model
identity_holds-requires c = ((lengths c).0, c.if-m-model.false, c.count_at-model.ensures.0)

pub counts_hold-requires : goal.counts_hold-requires
unfolding length_of_model
counts_hold-requires c =
    let n = c.count_at-model.ensures.0 in
    let h = model c in
    ((lengths-2 c).1, omega (arith, n, h), n)

pub kind_holds-requires : goal.kind_holds-requires
kind_holds-requires c = (lengths-3 c).0

pub count_at-model-requires : goal.count_at-model-requires
count_at-model-requires c = let h = lengths-4 c in omega (arith, h.0)
