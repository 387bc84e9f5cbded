use native.Mathlib.Omega.{arith}
use mathlib.Core.Path.{◌≡◌, sym, ap, ◌∙◌}
use mathlib.Core.List.{List}
use Prim.Native.Nat.{ℕ, ◌-◌, ◌≤◌, ◌<◌}
use lib.ListN.{length, take, drop}
use borrow.Author.Tests.{eq-eqb}
use Rattle.std.proofs.lemmas.Result.{err_from_is_err_and}
use Rattle.config.specs.Refusal.{Refusal}
use Rattle.config.proofs.Numbers.{some_number}
use Rattle.format.specs.Fields.{segments_of}
use Rattle.format.proofs.First.{reached_start, reached_turn}
use Rattle.format.proofs.Refusals.{passes, refusal-stop, refusal-end}
use Rattle.manifest.specs.Scratch.{run}
use Rattle.manifest.proofs.Parts.{held_start, Held, Found, found}
use Rattle.segment.specs.Check.{segment_refusal}
use Rattle.segment.specs.declared.Library.{Library}
use Rattle.segment.proofs.Library.check_in_order.Goals as goal

-- what a segment's run has found
part : (x : Library) → {keys : List ℕ} {i n c : ℕ} → i ≤ length keys → Held x.manifest.bytes.now keys i n
    → c ≡ run n (take (length keys - i) (drop i keys)) → Found x.manifest.bytes.now keys i n c
part x h r e = found x.manifest.bytes.now x.rows x.manifest.laid_out.most h r e

pub loop-n-init : goal.loop-n-init
loop-n-init c =
    let x = c.args.self.now in
    let m = x.manifest.bytes.now in
    record {
      within = omega arith;
      rest = held_start m x.rows x.manifest.laid_out.most c.args.keys.now c.requires.0;
      passed = reached_start (passes (segment_refusal m x.segments.now)) (segments_of m);
    }

pub overflow_add-j : goal.overflow_add-j
overflow_add-j c =
    let I = c.loop-n.invariant in
    let p = part c.args.self.now I.within I.rest c.run.ensures in
    omega (arith, p.ends)

pub slice_bounds-check_segment-end : goal.slice_bounds-check_segment-end
slice_bounds-check_segment-end c = let I = c.loop-n.invariant in (part c.args.self.now I.within I.rest c.run.ensures).ends

pub check_segment-requires : goal.check_segment-requires
check_segment-requires c =
    let I = c.loop-n.invariant in
    let x = c.args.self.now in
    (rw x.manifest.laid_out.rows (part x I.within I.rest c.run.ensures).below, c.loop-n-test.true, c.requires.1)

pub returns-in_err-check_segment : goal.returns-in_err-check_segment
returns-in_err-check_segment c =
    let I = c.loop-n.invariant in
    let x = c.args.self.now in
    let m = x.manifest.bytes.now in
    let f = segment_refusal m x.segments.now in
    let p = err_from_is_err_and c.from_residual.result c.from_residual.ensures.1 in
    let e = rw (part x I.within I.rest c.run.ensures).rows at c.in_err-check_segment.ensures in
    let h : c.loop-n.n < segments_of m = rw x.manifest.laid_out.segments at c.loop-n-test.true in
    rw (p.1, p.2) (e ∙ refusal-stop f (segments_of m) h (λ q. some_number c.in_err-check_segment.field-0.0.number (ap (λ (r : Refusal). r.number) e ∙ q)) I.passed)

pub loop-n-preserved : goal.loop-n-preserved
loop-n-preserved c =
    let I = c.loop-n.invariant in
    let x = c.args.self.now in
    let m = x.manifest.bytes.now in
    let p = part x I.within I.rest c.run.ensures in
    let e = rw p.rows at c.in_ok-check_segment.ensures in
    let h : c.loop-n.n < segments_of m = rw x.manifest.laid_out.segments at c.loop-n-test.true in
    record {
      within = p.ends;
      rest = p.next;
      passed = reached_turn h (eq-eqb (segment_refusal m x.segments.now c.loop-n.n).number 0 (ap (λ (r : Refusal). r.number) (sym e))) I.passed;
    }

pub returns : goal.returns
returns c =
    let x = c.args.self.now in
    let m = x.manifest.bytes.now in
    let p = x.manifest.laid_out in
    refusal-end (segment_refusal m x.segments.now) (segments_of m) (rw p.segments at c.loop-n-test.false) (rw p.segments at c.loop-n.auto.n-end) c.loop-n.invariant.passed
