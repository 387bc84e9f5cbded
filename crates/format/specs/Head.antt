-- The head: the manifest's length and every field before the segment table (readings R1), and its tests in their order (document 01,
-- What each place turns away: "1: length outside 66..=67,108,864, magic, a field cut short, counts, segment or row rule, bytes left over;
-- 2: metric, model or configuration refused"; the order is that of `read_manifest`).
use Rattle.std.specs.Prelude.{Bool, cond, not, ◌&&◌, List, ◌++◌, ℕ, ◌+◌, ◌-◌, ◌*◌, leb, eqb, length, replicate}
use Rattle.utf8.specs.Grammar.{span}
use Rattle.le.specs.Le.{le, le_at}
use Rattle.config.specs.Limits.{max_manifest_bytes, max_segments, max_records, max_segment_bytes}
use Rattle.config.specs.Metric.{metric_of, is_metric}
use Rattle.config.specs.Space.{valid_config, valid_space}
use Rattle.config.specs.declared.Metric.TheVariants.{SquaredL2}
use Rattle.config.specs.declared.Config.{Config}
use Rattle.format.specs.Order.{unless, first_bad}
use Rattle.format.specs.Fields.{magic, generation_of, sequence_of, dimensions_of, m_of, ef_of, seed_of, metric_byte, metric_at, length_of_model, model_of, segments_of, rows_of, length_of}
use Rattle.format.specs.declared.Head.{Head}

-- 1: length and magic
unfoldable pub opens_ok : List ℕ → Bool
opens_ok m = span 66 max_manifest_bytes (length m) && eqb (le_at 8 m 0) (le magic)

-- 2: the metric byte and the model's length, whether or not the model is cut short
unfoldable pub kind_ok : List ℕ → Bool
kind_ok m = is_metric (metric_of (metric_byte m)) && span 1 512 (length_of_model m)

-- 2: dimensions, m, ef, the model's UTF-8 and NUL
unfoldable pub identity_ok : List ℕ → Bool
identity_ok m = valid_config (dimensions_of m) (m_of m) (ef_of m) && valid_space (model_of m) (dimensions_of m)

-- 1: document 01, Layouts: "segment count u32 (at most 1024); row count u64 (at most 1,000,000)", "Generation is not 0. Rows are 0 exactly
-- when segments are 0"; the counts and what they count neither cut short nor with bytes left over
unfoldable pub counts_ok : List ℕ → Bool
counts_ok m =
    leb (65 + length_of_model m) (length m) && leb (segments_of m) max_segments && leb (rows_of m) max_records && not (eqb (generation_of m) 0)
    && cond (eqb (rows_of m) 0) (eqb (segments_of m) 0) (not (eqb (segments_of m) 0))
    && eqb (length m) (65 + length_of_model m + 12 * segments_of m + 20 * rows_of m)

unfoldable pub head_number : List ℕ → ℕ
head_number m =
    unless (opens_ok m) 1
    (unless (kind_ok m) 2
    (unless (leb (53 + length_of_model m) (length m)) 1
    (unless (identity_ok m) 2
    (unless (counts_ok m) 1 0))))

-- document 01, What each place turns away: 21, "a segment length is outside 4 to 67,108,864"; the same is 1 for the manifest
abbrev pub bad_length : List ℕ → ℕ
bad_length m = first_bad (λ n. span 4 max_segment_bytes (length_of m n)) (segments_of m)

unfoldable pub lengths_ok : List ℕ → Bool
lengths_ok m = eqb (bad_length m) (segments_of m)

-- what is accepted (readings R1): the model's bytes with zeros after them
abbrev pub config_at : List ℕ → Config
config_at m = record { dimensions = dimensions_of m; m = m_of m; ef_construction = ef_of m; seed = seed_of m; metric = metric_at m }

unfoldable pub head_at : List ℕ → Head
head_at m =
    record {
      length = length m;
      generation = generation_of m;
      sequence = sequence_of m;
      config = config_at m;
      model_length = length_of_model m;
      model = model_of m ++ replicate (512 - length_of_model m) 0;
      segments = segments_of m;
      rows = rows_of m;
    }

-- readings R23: "the state returned by a refused check .. is all zero"
unfoldable pub zero_head : Head
zero_head =
    record {
      length = 0;
      generation = 0;
      sequence = 0;
      config = record { dimensions = 0; m = 0; ef_construction = 0; seed = 0; metric = SquaredL2 };
      model_length = 0;
      model = replicate 512 0;
      segments = 0;
      rows = 0;
    }
