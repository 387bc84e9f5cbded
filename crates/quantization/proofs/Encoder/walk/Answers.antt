use mathlib.Core.Path.{sym, ◌∙◌}
use native.Mathlib.Omega.{arith}
use borrow.Author.Rules.{rules}
use Rattle.quantization.proofs.Midpoints.{walked_all}
use Rattle.quantization.proofs.Walks.{walked_next, walked_end}
use Rattle.quantization.proofs.Encoder.walk.Goals as goal

pub returns-then-k-self : goal.returns-then-k-self
returns-then-k-self c =
    let e = c.args.self.now in
    let w = walked_next e.midpoints e.counted c.requires c.held-z.ensures c.loop-k.invariant c.loop-k-test.true in
    (sym c.if-k-self.true ∙ walked_all e.levels w (omega (arith, c.if-k-self.true)), search rules)

pub loop-k-preserved : goal.loop-k-preserved
loop-k-preserved c =
    let e = c.args.self.now in
    (search rules, walked_next e.midpoints e.counted c.requires c.held-z.ensures c.loop-k.invariant c.loop-k-test.true)

pub overflow_add-result : goal.overflow_add-result
overflow_add-result c =
    let e = c.args.self.now in
    record { fits = omega (arith, (walked_end e.midpoints e.counted c.requires c.held-z.ensures c.loop-k.invariant c.loop-k-test.false).1) }

pub returns : goal.returns
returns c = let e = c.args.self.now in walked_end e.midpoints e.counted c.requires c.held-z.ensures c.loop-k.invariant c.loop-k-test.false
