use native.Mathlib.Omega.{arith}
use mathlib.Core.Path.{ap, ◌∙◌}
use Prim.Native.Nat.{◌+◌, ◌*◌}
use Rattle.le.specs.Le.{le_at}
use Rattle.format.specs.Fields.{crc_of}
use Rattle.format.proofs.Heads.{table_in}
use Rattle.format.proofs.Manifest.segment_crc.Goals as goal

pub returns : goal.returns
unfolding crc_of
returns c =
    c.u32_at.ensures ∙ ap (λ t. le_at 4 c.args.self.bytes.now (t + 12 * c.args.n + 8)) c.args.self.laid_out.table

pub overflow_add-self : goal.overflow_add-self
overflow_add-self c = let i = table_in c.args.self.laid_out c.requires in let s = c.args.self.laid_out.short in omega (arith, i, s)

pub overflow_add-self-2 : goal.overflow_add-self-2
overflow_add-self-2 c = let i = table_in c.args.self.laid_out c.requires in let s = c.args.self.laid_out.short in omega (arith, i, s)

pub u32_at-requires : goal.u32_at-requires
u32_at-requires c = let i = table_in c.args.self.laid_out c.requires in omega (arith, i)
