use native.Mathlib.Omega.{arith}
use mathlib.Core.Path.{◌≡◌}
use mathlib.Core.Bool.{Bool, true}
use mathlib.Core.List.{List}
use Prim.Native.Nat.{ℕ, ◌-◌, ◌≤◌}
use lib.ListN.{length, take, drop}
use Rattle.format.specs.Fields.{segments_of, length_of}
use Rattle.format.specs.declared.Manifest.{Manifest}
use Rattle.format.proofs.First.{reached_start, reached_turn, one_bad, none_bad}
use Rattle.entries.specs.Plan.{rows_ok}
use Rattle.manifest.specs.Tiling.{covers, in_segment, tiled}
use Rattle.manifest.specs.Scratch.{run}
use Rattle.manifest.proofs.Parts.{held_start, Held, Found, found}
use Rattle.manifest.proofs.tiles.Goals as goal

abbrev good : List ℕ → ℕ → Bool
good m n = covers m (length_of m n) (in_segment m n)

-- what a segment's run has found
part : (m : Manifest) → rows_ok m.bytes.now ≡ true → {keys : List ℕ} {i n c : ℕ} → i ≤ length keys → Held m.bytes.now keys i n
    → c ≡ run n (take (length keys - i) (drop i keys)) → Found m.bytes.now keys i n c
part m ok h r e = found m.bytes.now ok m.laid_out.most h r e

pub loop-n-init : goal.loop-n-init
loop-n-init c =
    let m = c.args.m.bytes.now in
    record { within = omega arith; rest = held_start m c.requires.0 c.args.m.laid_out.most c.args.keys.now c.requires.1; tiled = reached_start (good m) (segments_of m) }

pub overflow_add-j : goal.overflow_add-j
overflow_add-j c =
    let I = c.loop-n.invariant in
    let p = part c.args.m c.requires.0 I.within I.rest c.run.ensures in
    omega (arith, p.ends)

pub slice_bounds-covers-end : goal.slice_bounds-covers-end
slice_bounds-covers-end c = let I = c.loop-n.invariant in (part c.args.m c.requires.0 I.within I.rest c.run.ensures).ends

pub covers-requires : goal.covers-requires
covers-requires c =
    let I = c.loop-n.invariant in
    rw c.args.m.laid_out.rows (part c.args.m c.requires.0 I.within I.rest c.run.ensures).below

pub returns-then-not-covers : goal.returns-then-not-covers
unfolding tiled
returns-then-not-covers c =
    let I = c.loop-n.invariant in
    let p = part c.args.m c.requires.0 I.within I.rest c.run.ensures in
    one_bad (rw c.args.m.laid_out.segments at c.loop-n-test.true) (rw (c.covers.ensures, c.segment_length.ensures, p.rows) at c.if-not-covers.true) I.tiled

pub loop-n-preserved : goal.loop-n-preserved
loop-n-preserved c =
    let I = c.loop-n.invariant in
    let p = part c.args.m c.requires.0 I.within I.rest c.run.ensures in
    record {
      within = p.ends;
      rest = p.next;
      tiled = reached_turn (rw c.args.m.laid_out.segments at c.loop-n-test.true) (rw (c.covers.ensures, c.segment_length.ensures, p.rows) at c.if-not-covers.false) I.tiled;
    }

pub returns : goal.returns
unfolding tiled
returns c =
    none_bad (rw c.args.m.laid_out.segments at c.loop-n-test.false) (rw c.args.m.laid_out.segments at c.loop-n.auto.n-end) c.loop-n.invariant.tiled
