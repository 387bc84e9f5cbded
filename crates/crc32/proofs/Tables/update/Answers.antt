use mathlib.Core.Path.{sym, ◌∙◌}
use mathlib.Core.List.{[]}
use Rattle.le.proofs.LeLaws.{all-bytes}
use Rattle.crc32.proofs.Words.{begins_slots, word_turn, word_end}
use Rattle.crc32.proofs.Tables.update.Goals as goal

pub loop-w-preserved : goal.loop-w-preserved
loop-w-preserved c =
    let l = c.loop-w in
    let e = c.as_chunks.ensures in
    sym (word_turn c.args.s.now c.as_chunks.result.0.now e.front l.sum l.w-index [] (all-bytes c.args.s.now (λ k. (c.type_inv.s k).fits))
    e.front_len c.loop-w-test.true l.auto.sum-fits.fits c.u32_at.type_inv c.u32_at.ensures c.u32_at-in-loop-w.ensures c.eight_bytes-sum.ensures)
    ∙ l.invariant

pub by_bytes-requires : goal.by_bytes-requires
by_bytes-requires c = begins_slots c.args.self.now.is_slots

pub returns : goal.returns
returns c =
    let l = c.loop-w in
    let e = c.as_chunks.ensures in
    c.by_bytes.ensures
    ∙ word_end c.args.s.now c.as_chunks.result.0.now e.front l.sum l.w-index e.front_len e.back l.auto.w-index-end c.loop-w-test.false ∙ l.invariant
