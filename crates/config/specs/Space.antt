-- Configuration and model (document 01, table: "2: metric, model or configuration refused"; Layouts: "The model must also pass
-- `EmbeddingSpace::validate`"; config.rs, `Config::validate`; collection.rs, `EmbeddingSpace::validate`).
use Rattle.std.specs.Prelude.{Bool, not, ◌&&◌, List, ℕ, leb, eqb, length}
use Rattle.utf8.specs.Utf8.{valid}
use Rattle.config.specs.Limits.{max_dimensions, max_ef}
use Rattle.config.specs.Vector.{all}

-- dimensions 1 to 4096, m 2 to 64, ef from m to 4096
unfoldable pub valid_config : ℕ → ℕ → ℕ → Bool
valid_config dimensions m ef = leb 1 dimensions && leb dimensions max_dimensions && leb 2 m && leb m 64 && leb m ef && leb ef max_ef

-- no NUL
abbrev pub no_zero : List ℕ → Bool
no_zero s = all (λ x. not (eqb x 0)) s

-- 1 to 512 bytes of UTF-8 without NUL, and dimensions that the default configuration (m 16, ef 200) takes
unfoldable pub valid_space : List ℕ → ℕ → Bool
valid_space model dimensions = leb (length model) 512 && leb 1 (length model) && valid_config dimensions 16 200 && valid model && no_zero model
