-- Between functions: what they promise one another. No contract of an entry and no theorem rests on this file.
-- Where the parts of a manifest whose head passes its tests lie, as the functions that read them take it.
use Rattle.std.specs.Prelude.{◌≡◌, List, ℕ, ◌+◌, ◌*◌, ◌≤◌, length}
use Rattle.format.specs.Fields.{dimensions_of, segments_of, rows_of, table_at, entries_at}
use Rattle.format.specs.declared.Layout.{Layout}

pub record LaidOut (m : List ℕ) (l : Layout) : Type 0 where
  pub dimensions : l.dimensions ≡ dimensions_of m
  pub segments : l.segments ≡ segments_of m
  pub rows : l.rows ≡ rows_of m
  pub table : l.table ≡ table_at m
  pub entries : l.entries ≡ entries_at m
  pub end : entries_at m + 20 * rows_of m + 4 ≡ length m
  pub long : 66 ≤ length m
  pub short : length m ≤ 67108864
  pub low : 1 ≤ dimensions_of m
  pub high : dimensions_of m ≤ 4096
  pub few : segments_of m ≤ 1024
  pub most : rows_of m ≤ 1000000
