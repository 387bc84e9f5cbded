use Rattle.format.specs.Fields.{id_at, segment_at, offset_at, metadata_at}
use Rattle.entries.proofs.read_entry.Goals as goal

pub returns : goal.returns
unfolding id_at segment_at offset_at metadata_at
returns c =
    rw (c.u32_at-3.ensures, c.u32_at-2.ensures, c.u32_at.ensures, c.u64_at.ensures, c.args.m.laid_out.entries)
