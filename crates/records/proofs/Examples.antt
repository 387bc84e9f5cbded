-- Records handed out, computed from the definitions.
use mathlib.Core.Path.{◌≡◌, refl}
use mathlib.Core.List.{[], ◌∷◌}
use Rattle.le.specs.Le.{paste}
use Rattle.float.specs.Values.{one, two}
use Rattle.rank.specs.Rows.{passing}
use Rattle.config.specs.Refusal.{none, refused}
use Rattle.records.specs.Records.{hand_out_refusal, handed_out}
use Rattle.records.specs.declared.Record.{Record}

-- what stands in the slice
abbrev old : Record
old = record { distance = one; id = 7; row = 7 }

pub record Examples : Type 0 where
  -- one of two handed out; a slice of records that is too short, and stays; a count over one of the answer slices
  pub handed_1 : handed_out (5 ∷ 8 ∷ []) (two ∷ one ∷ []) (3 ∷ 4 ∷ []) 1 (old ∷ old ∷ []) ≡ record { distance = two; id = 5; row = 3 } ∷ old ∷ []
  pub handed-short : handed_out (5 ∷ 8 ∷ []) (two ∷ one ∷ []) (3 ∷ 4 ∷ []) 2 (old ∷ []) ≡ old ∷ []
  pub handed_20 : hand_out_refusal (5 ∷ 8 ∷ []) (two ∷ one ∷ []) (3 ∷ 4 ∷ []) 2 1 ≡ refused 20 0
  pub handed-ids : hand_out_refusal (5 ∷ []) (two ∷ one ∷ []) (3 ∷ 4 ∷ []) 2 2 ≡ refused 20 0
  pub handed-distances : hand_out_refusal (5 ∷ 8 ∷ []) (two ∷ []) (3 ∷ 4 ∷ []) 2 2 ≡ refused 20 0
  pub handed-rows : hand_out_refusal (5 ∷ 8 ∷ []) (two ∷ one ∷ []) (3 ∷ []) 2 2 ≡ refused 20 0
  pub handed_2 : hand_out_refusal (5 ∷ 8 ∷ []) (two ∷ one ∷ []) (3 ∷ 4 ∷ []) 2 2 ≡ none

pub examples : Examples
unfolding passing paste
examples = record {
  handed_1 = refl;
  handed-short = refl;
  handed_20 = refl;
  handed-ids = refl;
  handed-distances = refl;
  handed-rows = refl;
  handed_2 = refl;
}
