-- The head test of a search (document 01, What each place turns away, 21: "in the head, the manifest's length or a field before its segments differs from
-- what was accepted, or a segment length is outside 4 to 67,108,864"). Readings R3: the lent head is read anew with the rules of 1 and 2,
-- then compared; R4: every field of the head is compared, a segment length is only held in its bounds.
use Rattle.std.specs.Prelude.{Bool, ◌&&◌, List, ℕ, eqb}
use Rattle.std.specs.Cmp.Lexicographic.{pointwise}
use Rattle.config.specs.Metric.{byte_of}
use Rattle.config.specs.declared.Config.{Config}
use Rattle.format.specs.Head.{head_number, head_at, lengths_ok}
use Rattle.format.specs.declared.Head.{Head}

abbrev pub same_bytes : List ℕ → List ℕ → Bool
same_bytes = pointwise eqb

-- metrics are compared by their bytes
unfoldable pub same_config : Config → Config → Bool
same_config a b =
    eqb a.dimensions b.dimensions && eqb a.m b.m && eqb a.ef_construction b.ef_construction && eqb a.seed b.seed
    && eqb (byte_of a.metric) (byte_of b.metric)

unfoldable pub same_fields : Head → Head → Bool
same_fields a b =
    eqb a.length b.length && eqb a.generation b.generation && eqb a.sequence b.sequence && same_config a.config b.config
    && eqb a.model_length b.model_length && same_bytes a.model b.model && eqb a.segments b.segments && eqb a.rows b.rows

-- the lent manifest m against the accepted head h
unfoldable pub is_same_head : List ℕ → Head → Bool
is_same_head m h = eqb (head_number m) 0 && (same_fields (head_at m) h && lengths_ok m)
