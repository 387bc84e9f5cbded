use Prim.Native.Nat.{◌+◌, ◌-◌}
use mathlib.Core.Path.{sym, ◌∙◌}
use native.Mathlib.Omega.{arith}
use Rattle.codes.proofs.Numbers.{held8}
use Rattle.codes.proofs.Rows.{check_start, check_code, check_add}
use Rattle.codes.proofs.Row.part.Goals as goal

pub loop-j-init : goal.loop-j-init
loop-j-init g c = check_start (omega arith)

pub loop-j-preserved : goal.loop-j-preserved
loop-j-preserved g c =
    let u = c.args in
    let v = c.value in
    let z = c.masked in
    let e = g.met.C.Code.each u.self.now.codes.now (u.e - u.n + c.loop-j.j) c.index-self-p.result (omega arith) in
    let x = held8 {x = v.result} v.type_inv ∙ v.ensures ∙ sym e in
    check_code u.i (u.e - u.n) c.loop-j.j (u.e - u.i + 17 - u.n) (omega arith) (rw g.met.C.Code.as_many (omega arith)) x (rw (held8 {x = z.result} z.type_inv, z.ensures) at c.add_code_check-s.ensures) c.loop-j.invariant

pub returns : goal.returns
returns g c = check_add (omega arith) (omega arith) c.add_checks.ensures c.requires.checked c.loop-j.invariant
