use native.Mathlib.Omega.{arith}
use mathlib.Core.Path.{◌≡◌}
use mathlib.Core.Bool.{cond}
use mathlib.Core.List.{List}
use Prim.Native.Nat.{ℕ, suc, ◌+◌, ◌/◌, ◌<◌}
use native.Mathlib.Numerals.{add-one}
use lib.Dec.{eqb}
use borrow.Author.Tests.{eq-eqb, ne_eqb}
use lib.ListN.{length, get_or, drop, drop_of_length-le}
use lib.Seq.{drop-cons}
use Rattle.manifest.specs.Scratch.{key_segment, run}
use Rattle.manifest.proofs.run.Goals as goal

at : (keys : List ℕ) (n i : ℕ) → i < length keys → run n (drop i keys) ≡ cond (eqb (key_segment (get_or keys i 0)) n) (suc (run n (drop (i + 1) keys))) 0
unfolding run
at keys n i h = rw (drop-cons keys i 0 h, add-one i)

pub returns-then-key-n : goal.returns-then-key-n
unfolding key_segment
returns-then-key-n c =
    let a = c.args in
    let e = rw (ne_eqb (get_or a.keys.now c.loop-i.i 0 / 70368744177664) a.n c.if-key-n.true) at (at a.keys.now a.n c.loop-i.i c.loop-i-test.true) in
    omega (arith, e)

pub loop-i-preserved : goal.loop-i-preserved
unfolding key_segment
loop-i-preserved c =
    let a = c.args in
    let e = rw (eq-eqb (get_or a.keys.now c.loop-i.i 0 / 70368744177664) a.n c.if-key-n.false) at (at a.keys.now a.n c.loop-i.i c.loop-i-test.true) in
    omega (arith, e)

pub returns : goal.returns
unfolding run
returns c =
    let L = c.loop-i in
    let keys = c.args.keys.now in
    let f = rw (drop_of_length-le keys {i = L.i} c.loop-i-test.false) at L.invariant in
    omega (arith, f)
