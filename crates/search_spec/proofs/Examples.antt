-- The examples, each call computed from the definitions.
use mathlib.Core.Path.{◌≡◌, refl}
use mathlib.Core.Bool.{true, false, ◌&&◌, ◌||◌}
use mathlib.Core.List.{[], ◌∷◌, map}
use Prim.Native.Nat.{ℕ}
use lib.ListN.{replicate}
use lib.Ieee.{to_bits, of_bits, add, sub, mul, div, neg, lt, le, eq, is_nan, of_int}
use Rattle.le.specs.Le.{le as number, bytes, paste}
use Rattle.float.specs.Hold.{max_zero, clamp}
use Rattle.float.specs.Order.{total_below}
use Rattle.root.specs.SquareRoot.{sqrt_of}
use Rattle.rank.specs.Sort.{insert, sort, least}
use Rattle.rank.specs.Rows.{passing}
use Rattle.rank.specs.Order.{by_distance}
use Rattle.rank.specs.Limit.{among}
use Rattle.utf8.specs.Grammar.{span}
use Rattle.utf8.specs.Utf8.{valid}
use Rattle.config.specs.Metric.{metric_of}
use Rattle.config.specs.Space.{valid_config, valid_space}
use Rattle.config.specs.Vector.{all, valid_vector, patterns_at}
use Rattle.codes.specs.Codes.{signed, dot, squares, within}
use Rattle.quantization.specs.View.{row_bytes, row_at, valid_row}
use Rattle.quantization.specs.Encoder.{largest_from, scale_by, not_above, code_of, encode, midpoints_of}
use Rattle.math.specs.Sums.{fold2}
use Rattle.math.specs.Distance.{inverse, finished, original}
use Rattle.row.specs.Distance.{squared_l2, cosine_by, distance_of, approximate}
use Rattle.row.specs.Answer.{measured, answer, row_answer}
use Rattle.format.specs.Order.{first_from, first_refusal}
use Rattle.format.specs.Fields.{generation_of, sequence_of, dimensions_of, m_of, ef_of, seed_of, metric_byte, metric_at, length_of_model, model_of, segments_of, rows_of, table_at, entries_at, length_of, id_at, segment_at, offset_at, metadata_at, record_length}
use Rattle.format.specs.Head.{opens_ok, kind_ok, identity_ok, counts_ok, head_number, lengths_ok, head_at}
use Rattle.format.specs.Same.{same_bytes, same_config, same_fields, is_same_head}
use Rattle.entries.specs.Plan.{rises, entry_ok}
use Rattle.segment.specs.Record.{start_of, record_at, parts_ok, record_ok}
use Rattle.quantized_cache.specs.Open.{cache_length_ok}
use Rattle.resident.specs.Build.{resident_lengths_ok}
use Rattle.search_spec.specs.declared.Room.{Room}
use Rattle.search_spec.specs.Lent.{wants}
use Rattle.search_spec.specs.Tests.{ids_ok, most_ok, limit_ok, room_ok, open_by, query_by, front_by}
use Rattle.search_spec.specs.Lists.{is_eligible, eligible, eligible_rows, encoded, approximate_at, original_at, candidate_rows, listed_rows, exact_rows}
use Rattle.search_spec.specs.Scan.{row_refusal, rows_refusal, scan_refusal, record_refusal, records_refusal}
use Rattle.search_spec.specs.Outcome.{place_of, measured_rows, report_of, list_of, same_places, agreement_of, filled, cleared, late_refusal, outcome_by, searched, agreed}
use Rattle.search_spec.specs.Kept.{cached_rows, resident_rows}
use Rattle.search_spec.proofs.Example.{Example}
use Rattle.search_spec.proofs.Cosine.{Cosine}

-- the lengths of slices
abbrev room : ℕ → ℕ → ℕ → ℕ → ℕ → ℕ → ℕ → ℕ → Room
room ids distances rows starts lengths keys candidates wanted =
    record { ids = ids; distances = distances; rows = rows; starts = starts; lengths = lengths; keys = keys; candidates = candidates; wanted = wanted }

pub record Examples : Type 0 where
  pub document : Example
  pub cosine : Cosine
  -- the bounds of 19, 17 and 18, and one past each
  pub bounds_hold : (ids_ok 1000000 && most_ok 10000 && limit_ok 10000 65536 && limit_ok 3 3) ≡ true
  pub bounds-end : (ids_ok 1000001 || most_ok 10001 || limit_ok 0 65537 || limit_ok 3 2) ≡ false
  -- 20: of 3 rows, k = 2, limit 5 and 1 id, slices that are long enough, and each of them too short
  pub room-holds : room_ok 3 2 5 1 (room 2 2 2 2 2 3 3 1) ≡ true
  pub room-ends : map (room_ok 3 2 5 1) (room 1 2 2 2 2 3 3 1 ∷ room 2 1 2 2 2 3 3 1 ∷ room 2 2 1 2 2 3 3 1 ∷ room 2 2 2 1 2 3 3 1 ∷ room 2 2 2 2 1 3 3 1 ∷ room 2 2 2 2 2 2 3 1 ∷ room 2 2 2 2 2 3 2 1 ∷ room 2 2 2 2 2 3 3 0 ∷ [])
      ≡ replicate 8 false

pub examples : Examples
unfolding insert sort least passing by_distance among total_below span number bytes paste max_zero valid metric_of valid_config valid_space valid_vector patterns_at dot squares within valid_row largest_from scale_by not_above code_of encode midpoints_of fold2 finished original squared_l2 distance_of approximate measured answer row_answer first_from generation_of sequence_of dimensions_of m_of ef_of seed_of metric_byte metric_at length_of_model model_of segments_of rows_of table_at entries_at length_of id_at segment_at offset_at metadata_at record_length opens_ok kind_ok identity_ok counts_ok head_number lengths_ok head_at rises entry_ok same_config same_fields is_same_head start_of record_at parts_ok record_ok wants open_by query_by front_by is_eligible eligible eligible_rows encoded approximate_at original_at candidate_rows listed_rows exact_rows first_refusal row_refusal rows_refusal scan_refusal record_refusal records_refusal place_of measured_rows report_of list_of same_places agreement_of filled cleared late_refusal outcome_by searched agreed cached_rows resident_rows cache_length_ok resident_lengths_ok row_bytes row_at signed of_bits add sub mul div neg lt le eq is_nan of_int to_bits inverse clamp sqrt_of cosine_by
examples = record {
  document = record {
    report_1 = refl;
    answers_1 = refl;
    work_1 = refl;
    agreement_1 = refl;
    report_2 = refl;
    answers_2 = refl;
    agreement_2 = refl;
    cached_1 = refl;
    refused_0 = refl;
    refused_65537 = refl;
    before_0 = refl;
    ids-report = refl;
    ids-list = refl;
    allowed-list = refl;
    head_first = refl;
    most-next = refl;
    limit-next = refl;
    room_next = refl;
    room-leaves = refl;
    entry_next = refl;
    entry_clears = refl;
    zero_answers = refl;
    length_next = refl;
    row_21 = refl;
    row_22 = refl;
    row-passed-over = refl;
    record_unseen = refl;
    record_23 = refl;
    rising_23 = refl;
    agreement_23 = refl;
    agreement-leaves = refl;
  };
  cosine = record {
    report_2 = refl;
    answers_2 = refl;
    answers_0 = refl;
    report_0 = refl;
    zero_16 = refl;
    count_16 = refl;
    infinite_16 = refl;
    cached_2 = refl;
    lengths-held = refl;
    lengths-other = refl;
    codes-short = refl;
    scales-short = refl;
    norms-short = refl;
    cache-held = refl;
    cache-other = refl;
    cache-short = refl;
    length_21 = refl;
    rising_23 = refl;
    farther_unseen = refl;
    agreement_23 = refl;
    agreement_2 = refl;
  };
  bounds_hold = refl;
  bounds-end = refl;
  room-holds = refl;
  room-ends = refl;
}
