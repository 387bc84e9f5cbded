-- The bounds that document 01 names, as the Rust has them: config.rs, generation.rs (MAX_RECORDS; config.rs has another),
-- quantization.rs, quantized_cache.rs.
use Rattle.std.specs.Prelude.{ℕ}

-- Document 01, Layouts: metadata "at most 16,384 bytes"; config.rs: dimensions "1..=4096", ef "M..=4096"
abbrev pub max_dimensions : ℕ
max_dimensions = 4096

abbrev pub max_ef : ℕ
max_ef = 4096

abbrev pub max_metadata : ℕ
max_metadata = 16384

-- Document 01, Layouts, Manifest: "row count u64 (at most 1,000,000)", "segment count u32 (at most 1024)"; the table: 1, 19
abbrev pub max_records : ℕ
max_records = 1000000

abbrev pub max_segments : ℕ
max_segments = 1024

-- Document 01, What each place turns away: 1, "length outside 66..=67,108,864"; 21, "a segment length is outside 4 to 67,108,864"
abbrev pub max_manifest_bytes : ℕ
max_manifest_bytes = 67108864

abbrev pub max_segment_bytes : ℕ
max_segment_bytes = 67108864

-- Document 01, table: 17, "k over 10,000"; 18, "limit under k or over 65,536"; 8, "rows × dimensions over 536,870,912";
-- 7, "cache limit 0 or over 1,073,741,824"
abbrev pub max_results : ℕ
max_results = 10000

abbrev pub max_candidates : ℕ
max_candidates = 65536

abbrev pub max_code_bytes : ℕ
max_code_bytes = 536870912

abbrev pub cache_bytes_limit : ℕ
cache_bytes_limit = 1073741824
