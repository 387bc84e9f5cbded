use Rattle.api_state.proofs.read_config.Goals as goal

pub returns : goal.returns
returns c =
    rw (c.metric_of.ensures, c.u64_at-5.ensures, c.u64_at-4.ensures, c.u64_at-3.ensures, c.u64_at-2.ensures, c.u64_at.ensures)
