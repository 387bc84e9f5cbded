use Rattle.crc32.proofs.Words.{begins_entries}
use Rattle.crc32.proofs.Table.update.Goals as goal

pub by_bytes-requires : goal.by_bytes-requires
by_bytes-requires c = begins_entries c.args.self.now.is_entries
