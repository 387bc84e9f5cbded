-- A state as bytes of a fixed length: numbers of 8 bytes each, little-endian, those of the head first (readings R1), then the state's own (R2), then
-- the model's 512 bytes.
--
--     head, 600 bytes        cache, 608 bytes     resident, 624 bytes
--     0    manifest length   the same             the same
--     8    generation
--     16   sequence
--     24   dimensions
--     32   m
--     40   ef
--     48   seed
--     56   metric: 0 squared L2, 1 cosine, 2 inner product
--     64   model length
--     72   segments
--     80   rows
--     88   model             88   cache length    88   codes, 96 scales, 104 norms: the lengths as lent
--                            96   model           112  model
use Rattle.std.specs.Prelude.{cond, List, [], ◌∷◌, ◌++◌, ℕ, leb, take, drop}
use Rattle.le.specs.Le.{le_at, bytes}
use Rattle.config.specs.Metric.{metric_of, byte_of}
use Rattle.config.specs.declared.Config.{Config}
use Rattle.format.specs.Fields.{metric_in}
use Rattle.format.specs.Head.{zero_head}
use Rattle.format.specs.declared.Head.{Head}
use Rattle.quantized_cache.specs.declared.CacheState.{CacheState}
use Rattle.resident.specs.declared.ResidentState.{ResidentState}

-- each number in 8 bytes
unfoldable pub words : List ℕ → List ℕ
words [] = []
words (v ∷ vs) = bytes 8 v ++ words vs

unfoldable pub head_numbers : Head → List ℕ
head_numbers h =
    h.length ∷ h.generation ∷ h.sequence ∷ h.config.dimensions ∷ h.config.m ∷ h.config.ef_construction ∷ h.config.seed ∷ byte_of h.config.metric
    ∷ h.model_length ∷ h.segments ∷ h.rows ∷ []

-- of a head and the state's own numbers
unfoldable pub state_bytes : Head → List ℕ → List ℕ
state_bytes h own = words (head_numbers h ++ own) ++ h.model

abbrev pub head_bytes : Head → List ℕ
head_bytes h = state_bytes h []

abbrev pub bytes_of_cache : CacheState → List ℕ
bytes_of_cache s = state_bytes s.head (s.cache ∷ [])

abbrev pub resident_bytes : ResidentState → List ℕ
resident_bytes s = state_bytes s.head (s.codes ∷ s.scales ∷ s.norms ∷ [])

-- ---- reading, of any bytes; `at` is the model's place

abbrev pub config_in : List ℕ → Config
config_in b =
    record {
      dimensions = le_at 8 b 24;
      m = le_at 8 b 32;
      ef_construction = le_at 8 b 40;
      seed = le_at 8 b 48;
      metric = metric_in (metric_of (le_at 8 b 56));
    }

abbrev pub fields_in : List ℕ → ℕ → Head
fields_in b at =
    record {
      length = le_at 8 b 0;
      generation = le_at 8 b 8;
      sequence = le_at 8 b 16;
      config = config_in b;
      model_length = le_at 8 b 64;
      model = take 512 (drop at b);
      segments = le_at 8 b 72;
      rows = le_at 8 b 80;
    }

-- readings R3, a state that no acceptance returned: a metric over 2 is no state's, and the head is then the zero head, which no manifest has
-- (`no_manifest` in proofs/Laws.antt), so that a search refuses with 21
unfoldable pub head_at : List ℕ → ℕ → Head
head_at b at = cond (leb (le_at 8 b 56) 2) (fields_in b at) zero_head

unfoldable pub head_in : List ℕ → Head
head_in b = head_at b 88

unfoldable pub cache_in : List ℕ → CacheState
cache_in b = record { head = head_at b 96; cache = le_at 8 b 88 }

unfoldable pub resident_in : List ℕ → ResidentState
resident_in b = record { head = head_at b 112; codes = le_at 8 b 88; scales = le_at 8 b 96; norms = le_at 8 b 104 }
