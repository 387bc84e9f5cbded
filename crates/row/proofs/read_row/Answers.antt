use mathlib.Core.Path.{sym, ◌∙◌}
use mir.Facts.{to_z-of_z}
use Rattle.float.proofs.Patterns.{above_bits}
use Rattle.row.specs.Read.{read_of}
use Rattle.row.proofs.read_row.Goals as goal

pub returns-then-bits : goal.returns-then-bits
unfolding read_of
returns-then-bits c =
    let u = c.u64_at-bits in
    rw (c.value.ensures, to_z-of_z (record { sfits = c.i64_at.type_inv }), c.i64_at.ensures, u.ensures, rw u.ensures at (sym (above_bits u.result) ∙ c.if-bits.true))

pub returns : goal.returns
unfolding read_of
returns c = let u = c.u64_at-bits in rw (rw u.ensures at (sym (above_bits u.result) ∙ c.if-bits.false))
