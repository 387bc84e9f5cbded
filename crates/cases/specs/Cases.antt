-- The lettered cases of document 01, Contracts and proved cases: one list, each entry in its words.
use Rattle.std.specs.Prelude.{◌≡◌, Bool, true, false, List, [], ◌∷◌, ℕ, ◌+◌, ◌*◌, ℤ, pos, negsuc, replicate, Float}
use Rattle.std.specs.Float.{fin, binary64}
use Rattle.std.specs.Float.Ieee.{of_bits}
use Rattle.float.specs.Values.{plus_zero, one, two}
use Rattle.config.specs.declared.Number.TheVariants.{Approximate}
use Rattle.config.specs.Refusal.{refused}
use Rattle.config.specs.declared.Metric.TheVariants.{SquaredL2, Cosine, InnerProduct}
use Rattle.quantization.specs.View.{View, valid_row}
use Rattle.quantization.specs.Encoder.{base_levels, encode, code_of, midpoints}
use Rattle.cache_format.specs.Cache.{identity_length, cache_size}
use Rattle.cache_format.specs.Sizing.{sizing_number}
use Rattle.math.specs.Distance.{original}
use Rattle.row.specs.Distance.{approximate}
use Rattle.row.specs.Answer.{row_answer, refusal_of}
use Rattle.row.specs.declared.RowAnswer.TheVariants.{Refused}

-- the whole number n, and n halves
abbrev of_natural : ℕ → Float
of_natural n = fin false n (pos 0)

abbrev half : Bool → Float
half s = fin s 1 (negsuc 0)

abbrev minus_zero : Float
minus_zero = fin true 0 (pos 0)

abbrev pub row : Float → ℕ → List ℤ → View
row s n cs = record { scale = s; norm = pos n; codes = cs }

-- with the levels and midpoints of the base
abbrev pub encoded : List Float → View
encoded v = encode base_levels midpoints v

-- 1e200
abbrev pub large : Float
large = of_bits binary64 0x6974E718D7D7625A

pub record Cases : Type 0 where
  -- "(127, 0.5, -0.5): scale 1, codes 127, 1, -1, norm 16131"
  pub a : encoded (of_natural 127 ∷ half false ∷ half true ∷ []) ≡ row one 16131 (pos 127 ∷ pos 1 ∷ negsuc 0 ∷ [])
  -- "(254, 1, -1, 3): scale 2, codes 127, 1, -1, 2, norm 16135"
  pub b : encoded (fin false 127 (pos 1) ∷ one ∷ fin true 1 (pos 0) ∷ of_natural 3 ∷ []) ≡ row two 16135 (pos 127 ∷ pos 1 ∷ negsuc 0 ∷ pos 2 ∷ [])
  -- "Zero, two coordinates: scale 1, norm 0"
  pub c : encoded (plus_zero ∷ plus_zero ∷ []) ≡ row one 0 (pos 0 ∷ pos 0 ∷ [])
  -- "L2, row (127, 0), query (0, 127): both distances 32258"
  pub d-approximate : approximate SquaredL2 (encoded (of_natural 127 ∷ plus_zero ∷ [])) (encoded (plus_zero ∷ of_natural 127 ∷ [])) ≡ fin false 16129 (pos 1)
  pub d-original : original SquaredL2 (plus_zero ∷ of_natural 127 ∷ []) (of_natural 127 ∷ plus_zero ∷ []) ≡ fin false 16129 (pos 1)
  -- "Cosine, (127, 0) with itself: approximate +0"
  pub e : approximate Cosine (encoded (of_natural 127 ∷ plus_zero ∷ [])) (encoded (of_natural 127 ∷ plus_zero ∷ [])) ≡ plus_zero
  -- "Inner product, query (1): original distance of record (+0) is -0.0, of record (-0) +0.0"
  pub f_plus : original InnerProduct (one ∷ []) (plus_zero ∷ []) ≡ minus_zero
  pub f_minus : original InnerProduct (one ∷ []) (minus_zero ∷ []) ≡ plus_zero
  -- "L2, scale 1e200, norm 0: approximate +0. With norm 1 and a zero query: 22", which is `Approximate`: whatever the row's codes are, and in the first case the query
  pub g_plus : (cs : List ℤ) (q : View) → approximate SquaredL2 (row large 0 cs) q ≡ plus_zero
  pub g_refused : (place n : ℕ) (cs : List ℤ) → valid_row base_levels SquaredL2 (row large 1 cs) ≡ true
      → row_answer base_levels SquaredL2 true place (row large 1 cs) (encoded (replicate n plus_zero)) ≡ Refused (record { number = Approximate; place = place })
  pub g_number : (place n : ℕ) (cs : List ℤ) → valid_row base_levels SquaredL2 (row large 1 cs) ≡ true
      → refusal_of (row_answer base_levels SquaredL2 true place (row large 1 cs) (encoded (replicate n plus_zero))) ≡ refused 22 place
  -- "Platform `linux`, root `/s`, one-byte model, one segment, two rows of 3: identity 121, cache 179. Limit 187 passes, 186 gives 9;
  -- block 19 passes, 18 gives 7"; the manifest is 65 bytes, the model, 12 a segment and 20 a row long
  pub h-identity : identity_length 5 2 (65 + 1 + 12 * 1 + 20 * 2) ≡ 121
  pub h-cache : cache_size 121 0 2 3 ≡ 179
  pub h-passes : sizing_number 5 2 187 19 118 2 3 ≡ 0
  pub h-limit : sizing_number 5 2 186 19 118 2 3 ≡ 9
  pub h_block : sizing_number 5 2 187 18 118 2 3 ≡ 7
  -- Plausible misreadings: a quotient of "0.49999999999999994 must give 0"
  pub below_half : code_of midpoints (of_bits binary64 0x3FDFFFFFFFFFFFFF) ≡ pos 0
