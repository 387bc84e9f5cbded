use mathlib.Core.Path.{◌∙◌}
use mathlib.Core.List.{append-nil}
use lib.ListN.{take, drop}
use borrow.Author.Tests.{le-leb, lt-leb}
use Rattle.api_state.specs.Bytes.{head_at}
use Rattle.api_state.proofs.head_at.Goals as goal

pub returns-then-unknown : goal.returns-then-unknown
unfolding head_at
returns-then-unknown c =
    rw (← c.u64_at-unknown.ensures, lt-leb _ _ c.if-unknown.true) c.zero_head.ensures

pub returns : goal.returns
unfolding head_at
returns c =
    let a = c.args in
    let model = c.read_model.ensures ∙ append-nil (take 512 (drop a.at a.b.now)) in
    rw (c.u64_at-6.ensures, c.u64_at-5.ensures, model, c.u64_at-4.ensures, c.read_config.ensures, c.u64_at-3.ensures, c.u64_at-2.ensures, c.u64_at.ensures, le-leb _ _ (rw c.u64_at-unknown.ensures at c.if-unknown.false))
