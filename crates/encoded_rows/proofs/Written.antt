-- What a record that passes gives the encoder, and what the encoder makes of it.
use mathlib.Core.Path.{◌≡◌, ◌∙◌}
use mathlib.Core.Bool.{true}
use mathlib.Core.List.{List}
use Prim.Native.Nat.{ℕ, ◌+◌, ◌<◌}
use native.Mathlib.Omega.{arith}
use lib.ListN.{length}
use lib.Ieee.{Float}
use Rattle.config.specs.Refusal.{none}
use Rattle.config.proofs.Refusals.{not_zero, all_hold, none_fails, Plain, plain_at}
use Rattle.config.proofs.Vectors.{length_floats}
use Rattle.config.proofs.Coordinates.{floats_fit}
use Rattle.quantization.specs.View.{row_bytes, valid_row}
use Rattle.quantization.specs.Encoder.{Levels, Table}
use Rattle.quantization.proofs.Rows.{length_row}
use Rattle.quantization.proofs.Encoded.{encoded_length, encoded-valid}
use Rattle.format.specs.Fields.{dimensions_of, rows_of, metric_at}
use Rattle.format.proofs.First.{each_passes, all_pass}
use Rattle.segment.specs.Record.{record_at, vector_of, record_ok}
use Rattle.segment.proofs.RecordLaws.{good}
use Rattle.encoded_rows.specs.Rows.{row_of, lowest_bad, bad_record_refusal}

-- ---- the length of a row
module _ (levels : ℕ) (mids : List Float) (m s : List ℕ) where
  pub own_codes : (n : ℕ) → length (row_of levels mids m s n).codes ≡ dimensions_of m
  own_codes n = encoded_length levels mids (vector_of m s n) ∙ length_floats (dimensions_of m) s (record_at m n + 12)

  pub length_own : (n : ℕ) → length (row_bytes (row_of levels mids m s n)) ≡ dimensions_of m + 16
  length_own n = let e = length_row (row_of levels mids m s n) in let f = own_codes n in omega (arith, e, f)

-- ---- 5
module _ (m s : List ℕ) where
  pub none-bad : (bad_record_refusal m s).number ≡ 0 → lowest_bad m s ≡ rows_of m
  unfolding bad_record_refusal
  none-bad h = (none_fails 5 (lowest_bad m s) (rows_of m) none not_zero h).0

  pub records-plain : Plain (bad_record_refusal m s)
  unfolding bad_record_refusal
  records-plain = plain_at 5 (lowest_bad m s) (rows_of m) not_zero

  pub all_good : ((r : ℕ) → r < rows_of m → record_ok m s r ≡ true) → bad_record_refusal m s ≡ none
  unfolding bad_record_refusal
  all_good h = all_hold 5 (lowest_bad m s) (rows_of m) none (all_pass (record_ok m s) (rows_of m) h)

  -- where no record fails, each row passes the row test
  pub rows-valid : {levels : ℕ} {mids : List Float} → Levels levels → Table levels mids → lowest_bad m s ≡ rows_of m → (r : ℕ) → r < rows_of m
      → valid_row levels (metric_at m) (row_of levels mids m s r) ≡ true
  rows-valid g t h r l =
      encoded-valid g t (metric_at m) (dimensions_of m) (vector_of m s r) (floats_fit (dimensions_of m) s (record_at m r + 12))
      (good m s r (each_passes (record_ok m s) (rows_of m) r h l)).vector
