use Rattle.std.proofs.Common.{◌≡◌, ◌<◌, length, sym, ◌∙◌, arith}
use Rattle.records.proofs.Lists.{upto-none, upto_next, fits, handed}
use Rattle.records.proofs.records.Goals as goal

pub loop-i-init : goal.loop-i-init
loop-i-init c = sym (upto-none c.args.ids.now c.args.distances.now c.args.rows.now c.args.out.now)

pub loop-i-preserved : goal.loop-i-preserved
loop-i-preserved c =
    let a = c.args in
    let i = c.loop-i.i in
    let room = fits a.ids.now a.distances.now a.rows.now a.out.now a.count (rw c.room_holds.ensures at c.if-not-room_holds.false) in
    let here : i < length a.out.now = omega (arith, room, c.loop-i-test.true) in
    rw (c.loop-i.invariant, c.record_at.ensures) (upto_next a.ids.now a.distances.now a.rows.now a.out.now i here)

pub returns : goal.returns
returns c =
    let a = c.args in
    let e = handed a.ids.now a.distances.now a.rows.now a.out.now a.count (rw c.room_holds.ensures at c.if-not-room_holds.false) in
    let all : c.loop-i.i ≡ a.count = omega (arith, c.loop-i-test.false) in
    (e.0, c.loop-i.invariant ∙ rw all e.1)
