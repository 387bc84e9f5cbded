-- Between functions: what they promise one another. No contract of an entry and no theorem rests on this file.
-- The entry of a row, as the functions that read it return it.
use Rattle.std.specs.Prelude.{List, ℕ}
use Rattle.format.specs.Fields.{id_at, segment_at, offset_at, metadata_at}
use Rattle.entries.specs.declared.Entry.{Entry}

abbrev pub entry_at : List ℕ → ℕ → Entry
entry_at m r = record { id = id_at m r; segment = segment_at m r; offset = offset_at m r; metadata = metadata_at m r }
