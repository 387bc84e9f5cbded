use mathlib.Core.Path.{refl, sym, ◌∙◌}
use native.Mathlib.Omega.{arith}
use Rattle.codes.proofs.Numbers.{held8, held16}
use Rattle.codes.proofs.Rows.{sums-start, sums_next}
use Rattle.codes.proofs.Pair.first.Goals as goal

pub loop-j-init : goal.loop-j-init
loop-j-init g c = sums-start refl (rw g.met.C.Code.as_many c.args.self.now.as_long) (omega arith)

pub loop-j-preserved : goal.loop-j-preserved
loop-j-preserved g c =
    let u = c.args.self.now in
    let z = c.value in
    let e = g.met.C.Code.each u.row.codes.now c.loop-j.j c.index-self-j.result (omega (arith, u.as_long)) in
    let x = held8 {x = z.result} z.type_inv ∙ z.ensures ∙ sym e in
    sums_next c.loop-j.j (omega arith) refl (omega arith) x (held16 (u.small.at _)) c.add_first_code-s.ensures c.loop-j.invariant
