use Prim.Native.Nat.{◌+◌, ◌-◌}
use mathlib.Core.Path.{sym, ◌∙◌}
use native.Mathlib.Omega.{arith}
use Rattle.codes.proofs.Numbers.{held8, held16}
use Rattle.codes.proofs.Rows.{sums-start, sums-code, sums_add}
use Rattle.codes.proofs.Pair.part.Goals as goal

pub loop-j-init : goal.loop-j-init
loop-j-init g c = sums-start (omega arith) (rw g.met.C.Code.as_many c.args.self.now.as_long) (omega (arith, c.requires.e_in_bounds))

pub loop-j-preserved : goal.loop-j-preserved
loop-j-preserved g c =
    let u = c.args in
    let s = u.self.now in
    let v = c.value in
    let z = c.masked in
    let e = g.met.C.Code.each s.row.codes.now (u.e - u.n + c.loop-j.j) c.index-self-p.result (omega (arith, s.as_long, c.requires.e_in_bounds)) in
    let x = held8 {x = v.result} v.type_inv ∙ v.ensures ∙ sym e in
    sums-code u.i (u.e - u.n) c.loop-j.j (u.e - u.i + 17 - u.n) (omega arith) (omega arith) x (held16 (s.small.at _)) (rw (held8 {x = z.result} z.type_inv, z.ensures) at c.add_code-s.ensures) c.loop-j.invariant

pub returns : goal.returns
returns g c = sums_add (omega arith) (omega arith) c.add_sums.ensures c.requires.summed c.loop-j.invariant
