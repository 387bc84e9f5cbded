use native.Mathlib.Omega.{arith}
use mathlib.Core.Path.{sym, ◌∙◌}
use mir.Syntax.{w32}
use mir.Facts.{to_z-of_z}
use Rattle.row.proofs.Views.{scaled}
use Rattle.scan.proofs.Far.{word_small, turned_far, turned_over, turned_read}
use Rattle.scan.proofs.Against.turns_away.Goals as goal

pub returns-then-sums_hold : goal.returns-then-sums_hold
returns-then-sums_hold c s n e =
    let a = c.args in
    let k = a.sums.check in
    let q = a.self.query.row in
    let row = c.in-Some.row in
    turned_read a.self.metric k.squares k.whole s n q.scale a.sums.dot (scaled s n (sym c.in-Some.is ∙ e))
    (turned_far row.scale row.norm k.squares k.whole q.scale q.norm a.sums.dot a.bound a.far a.self.metric
    (omega arith) (word_small a.sums.dot (record { sfits = omega arith })) (sym c.if-is_cosine.ensures) (sym c.if-sums_hold.ensures)
    (rw (to_z-of_z {w = w32} {z = a.sums.dot} (record { sfits = omega arith })) at c.is_far.ensures))

pub returns-then-sums_hold-2 : goal.returns-then-sums_hold-2
returns-then-sums_hold-2 c s n e =
    let a = c.args in
    let k = a.sums.check in
    let q = a.self.query.row in
    let row = c.in-Some.row in
    turned_read a.self.metric k.squares k.whole s n q.scale a.sums.dot (scaled s n (sym c.in-Some.is ∙ e))
    (turned_over row.scale row.norm k.squares k.whole q.scale q.norm a.sums.dot a.bound a.far a.self.metric
    (sym c.if-sums_hold-2.ensures)
    (rw (to_z-of_z {w = w32} {z = a.sums.dot} (record { sfits = omega arith })) at c.is_over.ensures))
