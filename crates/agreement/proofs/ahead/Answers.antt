use borrow.Author.Tests.{lt-ltb, le-ltb, eq-eqb, ne_eqb}
use native.Mathlib.Omega.{arith}
use Rattle.agreement.proofs.ahead.Goals as goal

pub returns-in-Some : goal.returns-in-Some
returns-in-Some c = let e = c.in-Some.ensures in record { place = c.in-Some.i; first = e.1; so = rw (lt-ltb _ _ e.0, ne_eqb _ _ c.if-rs-i.true) }

pub returns-in_default : goal.returns-in_default
returns-in_default c = let e = c.in-Some.ensures in record { place = c.in-Some.i; first = e.1; so = rw (lt-ltb _ _ e.0, eq-eqb _ _ c.if-rs-i.false) }

pub returns-in_default-2 : goal.returns-in_default-2
returns-in_default-2 c = record { place = c.args.n; first = c.in_default.ensures; so = rw (le-ltb c.args.n c.args.n (omega arith)) }
