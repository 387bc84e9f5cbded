use Prim.Native.Nat.{◌+◌, ◌%◌, ◌<◌}
use mathlib.Core.Path.{◌≡◌, refl}
use lib.ListN.{length}
use native.Mathlib.Omega.{arith}
use Rattle.codes.specs.Sums.{Summed}
use Rattle.codes.proofs.Rows.{sums-start, sums_done}
use Rattle.codes.proofs.Pair.sums.Given as given
use Rattle.codes.proofs.Pair.sums.Goals as goal
use Rattle.codes.proofs.Pair.sums.Goals.{else-r-ge16, else-r-ge32, else-r-ge32-2, then-r-ge16, then-r-ge32+else-loop-r-test, then-r-ge32-2, Joined-r-ge16}

-- what holds after an odd part of 16
after-16 : (g : given.Over) (c : Joined-r-ge16 g)
    → (c.if-r-ge16.i + c.if-r-ge16.r ≡ length c.args.self.now.query.now) × (c.if-r-ge16.r % 32 < 16) × Summed c.args.self.now.row.levels c.if-r-ge16.i ((g.C.Code).codes_of c.args.self.now.row.codes.now) c.args.self.now.query.now 0 c.if-r-ge16.s
after-16 g c =
    elim c.if-r-ge16.branch [
      | then-r-ge16 w ↦ rw (w.s-is, w.i-is, w.r-is) (omega (arith, w.if-r-ge16.true), omega (arith, w.if-r-ge16.true), w.first-s.ensures)
      | else-r-ge16 w ↦ rw (w.s-is, w.i-is, w.r-is) (omega arith, omega (arith, w.if-r-ge16.false), sums-start refl (rw g.met.C.Code.as_many c.args.self.now.as_long) (omega arith))
    ]

pub turn_32-s-requires-clause-summed : goal.turn_32-s-requires-clause-summed
turn_32-s-requires-clause-summed g c = (after-16 g (goal.at.turn_32-s-requires-clause-summed g c).Joined-r-ge16).2

pub loop-r-init : goal.loop-r-init
loop-r-init g c =
    let m = after-16 g (goal.at.loop-r-init g c).Joined-r-ge16 in
    elim c.if-r-ge32-2.branch [
      | then-r-ge32-2 w ↦ rw (w.s-is, w.i-is, w.r-is) (omega (arith, m.0, w.if-r-ge32-2.true), omega (arith, m.1, w.if-r-ge32-2.true), w.turn_32-s.ensures)
      | else-r-ge32-2 w ↦ rw (w.s-is, w.i-is, w.r-is) (m.0, omega (arith, m.1, w.if-r-ge32-2.false), m.2)
    ]

pub returns-then-r-eq0 : goal.returns-then-r-eq0
returns-then-r-eq0 g c =
    let m = after-16 g (goal.at.returns-then-r-eq0 g c).Joined-r-ge16 in
    elim c.if-r-ge32.branch [
      | then-r-ge32+else-loop-r-test w ↦ rw w.s-is (sums_done (omega (arith, w.r-is, c.if-r-eq0.true)) refl w.loop-r.invariant.2)
      | else-r-ge32 w ↦ rw w.s-is (sums_done (omega (arith, m.0, w.r-is, c.if-r-eq0.true)) refl m.2)
    ]

pub returns-then-r-lt7 : goal.returns-then-r-lt7
returns-then-r-lt7 g c = sums_done refl refl c.ones.ensures

pub returns : goal.returns
returns g c = sums_done refl refl c.part.ensures
