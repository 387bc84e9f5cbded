-- What the files QUERY, CALL and PLACE hold (document 01, Contracts and proved cases: "QUERY (f32s), CALL (k and limit, u32) and PLACE
-- (platform up to the first newline, then root)"; Layouts: "Integers are little-endian").
use Rattle.std.specs.Prelude.{List, ℕ, ◌+◌, ◌/◌, eqb, length, take, drop, Float, Option, unwrap_or, position}
use Rattle.le.specs.Le.{le_at}
use Rattle.config.specs.Vector.{floats_at}

-- the most bytes of a file
abbrev pub max_file_bytes : ℕ
max_file_bytes = 65536

unfoldable pub query_of : List ℕ → List Float
query_of query = floats_at (length query / 4) query 0

unfoldable pub k_of : List ℕ → ℕ
k_of call = le_at 4 call 0

unfoldable pub limit_of : List ℕ → ℕ
limit_of call = le_at 4 call 4

-- where the first newline stands
abbrev pub newline_byte : ℕ
newline_byte = 10

abbrev pub newline_at : List ℕ → Option ℕ
newline_at place = position (λ b. eqb b newline_byte) place

-- "the root is all after the first newline, later newlines with it; no trimming; both parts may be empty" (readings R37); with no newline all
-- is the platform
unfoldable pub platform_of : List ℕ → List ℕ
platform_of place = take (unwrap_or (newline_at place) (length place)) place

unfoldable pub root_part : List ℕ → List ℕ
root_part place = drop (unwrap_or (newline_at place) (length place) + 1) place
