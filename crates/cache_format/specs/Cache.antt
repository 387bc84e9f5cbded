-- The cache's bytes (document 01, Layouts, Cache: "`VECSQ801`, version 1 (u32), identity length u32, identity, rows, CRC-32").
use Rattle.std.specs.Prelude.{List, [], ◌∷◌, ◌++◌, ℕ, ◌+◌, ◌-◌, ◌*◌, length, take, drop}
use Rattle.le.specs.Le.{bytes}
use Rattle.crc32.specs.Crc.{crc32}

-- "VECSQ801"
abbrev pub cache_magic : List ℕ
cache_magic = 86 ∷ 69 ∷ 67 ∷ 83 ∷ 81 ∷ 56 ∷ 48 ∷ 49 ∷ []

-- bytes "after a u32 length"
unfoldable pub counted : List ℕ → List ℕ
counted s = bytes 4 (length s) ++ s

-- "the manifest without its first 8 and last 4 bytes"
abbrev pub inner : List ℕ → List ℕ
inner m = take (length m - 12) (drop 8 m)

-- document 01, Layouts, Identity: "platform name and root path, each after a u32 length, then the manifest without its first 8 and last 4
-- bytes"
unfoldable pub identity : List ℕ → List ℕ → List ℕ → List ℕ
identity platform root m = counted platform ++ counted root ++ inner m

-- its length, from theirs
abbrev pub identity_length : ℕ → ℕ → ℕ → ℕ
identity_length platform root m = 4 + platform + (4 + root) + (m - 12)

-- the version of the base, and its bytes between identity and rows: none
abbrev pub cache_version : ℕ
cache_version = 1

abbrev pub cache_between : List ℕ
cache_between = []

-- what stands between the magic and the rows, for a version of the cache and its bytes between identity and rows
unfoldable pub head_rest : ℕ → List ℕ → List ℕ → List ℕ
head_rest version i between = bytes 4 version ++ counted i ++ between

-- what stands before the rows
unfoldable pub cache_head : ℕ → List ℕ → List ℕ → List ℕ
cache_head version i between = cache_magic ++ head_rest version i between

-- bytes, and behind them their CRC-32
abbrev pub with_crc : List ℕ → List ℕ
with_crc h = h ++ bytes 4 (crc32 h)

-- the whole cache
unfoldable pub bytes_of_cache : ℕ → List ℕ → List ℕ → List ℕ → List ℕ
bytes_of_cache version i between rows = with_crc (cache_head version i between ++ rows)

-- "A row is scale f64, norm i64, one signed byte a coordinate"
abbrev pub row_length : ℕ → ℕ
row_length dimensions = dimensions + 16

-- "Size = identity + 20 + rows × (dimensions + 16)", and as many as stand between identity and rows
abbrev pub cache_size : ℕ → ℕ → ℕ → ℕ → ℕ
cache_size i between rows dimensions = i + 20 + between + rows * row_length dimensions
