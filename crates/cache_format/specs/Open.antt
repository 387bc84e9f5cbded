-- What opening tests before the rows (document 01, What each place turns away, opening: "12: length, magic or version wrong; 13: identity
-- differs").
use Rattle.std.specs.Prelude.{Bool, ◌&&◌, List, ℕ, eqb, length, take, drop}
use Rattle.le.specs.Le.{le, le_at}
use Rattle.format.specs.Order.{unless}
use Rattle.format.specs.Same.{same_bytes}
use Rattle.cache_format.specs.Cache.{cache_magic}

-- 12; readings R17: "length first, then magic and version"
unfoldable pub cache_head_ok : ℕ → ℕ → List ℕ → Bool
cache_head_ok version size cache = eqb (length cache) size && (eqb (le_at 8 cache 0) (le cache_magic) && eqb (le_at 4 cache 8) version)

-- 13; readings R17: "identity length or bytes"
unfoldable pub same_identity : List ℕ → List ℕ → Bool
same_identity i cache = eqb (le_at 4 cache 12) (length i) && same_bytes (take (length i) (drop 16 cache)) i

-- against the version, the size and the identity that are expected
unfoldable pub cache_head_number : ℕ → ℕ → List ℕ → List ℕ → ℕ
cache_head_number version size i cache =
    unless (cache_head_ok version size cache) 12
    (unless (same_identity i cache) 13 0)
