-- The tests before the rows are looked at (document 01, What each place turns away: "Search: 19, 21 for the manifest head, 16, 17, 18, 20, 21
-- for the entries; with k = 0 it then answers"). All but the last are refused at place 0.
use Rattle.std.specs.Prelude.{Bool, ◌&&◌, List, ℕ, min, leb, length, Float}
use Rattle.config.specs.Limits.{max_records, max_results, max_candidates}
use Rattle.config.specs.Refusal.{Refusal, refused_at}
use Rattle.config.specs.Vector.{valid_vector}
use Rattle.format.specs.Order.{unless, or_else}
use Rattle.format.specs.Fields.{dimensions_of, rows_of, metric_at}
use Rattle.format.specs.Same.{is_same_head}
use Rattle.format.specs.declared.Head.{Head}
use Rattle.entries.specs.Plan.{bad_entry}
use Rattle.search_spec.specs.declared.Room.{Room}
use Rattle.search_spec.specs.Lent.{Answers, Work, Call, handed}

-- ids: "19: over 1,000,000 ids handed in"
abbrev pub ids_ok : ℕ → Bool
ids_ok count = leb count max_records

-- head: "21: lent bytes no longer as opened"; "in the head, the manifest's length or a field before its segments differs from what was
-- accepted, or a segment length is outside 4 to 67,108,864"
abbrev pub head_ok : Head → List ℕ → Bool
head_ok head m = is_same_head m head

-- query: "16: query count, non-finite value, zero query under cosine"
abbrev pub query_ok : List ℕ → List Float → Bool
query_ok m query = valid_vector (metric_at m) (dimensions_of m) query

-- most: "17: k over 10,000"
abbrev pub most_ok : ℕ → Bool
most_ok k = leb k max_results

-- limit: "18: limit under k or over 65,536"
abbrev pub limit_ok : ℕ → ℕ → Bool
limit_ok k limit = leb k limit && leb limit max_candidates

-- room: "20 is only for an answer slice under min(k, rows) elements, a candidate slice under min(limit, rows), an id slice under the ids
-- handed in", of the lengths of the slices
abbrev pub room_of : Answers → Work → Room
room_of a w =
    record {
      ids = length a.ids;
      distances = length a.distances;
      rows = length a.rows;
      starts = length a.starts;
      lengths = length a.lengths;
      keys = length w.keys;
      candidates = length w.rows;
      wanted = length w.ids;
    }

abbrev pub answers_ok : ℕ → Room → Bool
answers_ok n r = leb n r.ids && leb n r.distances && leb n r.rows && leb n r.starts && leb n r.lengths

abbrev pub candidates_ok : ℕ → Room → Bool
candidates_ok n r = leb n r.keys && leb n r.candidates

abbrev pub room_ok : ℕ → ℕ → ℕ → ℕ → Room → Bool
room_ok rows k limit ids r = answers_ok (min k rows) r && candidates_ok (min limit rows) r && leb ids r.wanted

-- entries: 21 at the first row at which "an entry breaks the rising-id, segment, metadata or record-end rule", else what the rest says
abbrev pub entries_refusal : List ℕ → Refusal → Refusal
entries_refusal m rest = refused_at 21 (bad_entry m) (rows_of m) rest

-- The order: ids and head, then what a single query is refused for; `ids` is the count handed in.
unfoldable pub open_by : Head → List ℕ → ℕ → ℕ
open_by head m ids =
    unless (ids_ok ids) 19
    (unless (head_ok head m) 21 0)

unfoldable pub query_by : List ℕ → ℕ → List Float → ℕ → ℕ → Room → ℕ
query_by m ids query k limit room =
    unless (query_ok m query) 16
    (unless (most_ok k) 17
    (unless (limit_ok k limit) 18
    (unless (room_ok (rows_of m) k limit ids room) 20 0)))

unfoldable pub front_by : Head → List ℕ → ℕ → List Float → ℕ → ℕ → Room → ℕ
front_by head m ids query k limit room = or_else (open_by head m ids) (query_by m ids query k limit room)

-- the same of a call
abbrev pub query_number : Call → ℕ
query_number c = query_by c.manifest (handed c.wanted) c.query c.k c.limit (room_of c.answers c.work)

abbrev pub front_number : Head → Call → ℕ
front_number head c = front_by head c.manifest (handed c.wanted) c.query c.k c.limit (room_of c.answers c.work)
