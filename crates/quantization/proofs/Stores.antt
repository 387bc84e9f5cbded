-- The loop that stores codes, whatever a code is stored as: one turn, and its end.
use Rattle.config.proofs.Coordinates.{all-at, patterns_fit}
use mathlib.Core.Path.{◌≡◌, refl, sym, ap, ◌∙◌}
use mathlib.Core.Bool.{true}
use mathlib.Core.List.{List, [], ◌∷◌, ◌++◌, map, append-nil}
use Prim.Native.Nat.{ℕ, ◌+◌, ◌*◌, ◌^◌, ◌≤◌, ◌<◌}
use native.Mathlib.Numerals.{add-one}
use native.Mathlib.Omega.{arith}
use lib.Dec.{T, leb}
use lib.IntN.{ℤ, pos}
use lib.ListN.{length, get_or, set, take, drop, length-map, get_or-map, drop_of_length-le}
use lib.Seq.{take-suc, take-length}
use lib.Ieee.{Float, nan, binary32, binary64, of_bits, div}
use lib.Ieee.Scale.{finite}
use lib.Ieee.Positive.{positive}
use Rattle.le.proofs.Pastes.{copy_turn}
use Rattle.float.specs.Values.{abs}
use Rattle.config.specs.Vector.{finites, largest_bits}
use Rattle.codes.specs.Codes.{squares}
use Rattle.quantization.specs.Encoder.{Levels, largest, scale_by, scale_of, encode, not_above, signed_by, code_of}
use Rattle.codes.proofs.Rows.{squares-append}
use Rattle.quantization.proofs.Codes.{abs-signed, square_le}
use Rattle.quantization.proofs.Scales.{scale-plus}
use Rattle.quantization.proofs.Coordinates.{number_at, scale-is, largest-plain, code_is}

-- the codes of v at the scale s, by the midpoints mids
abbrev pub codes_by : List Float → Float → List Float → List ℤ
codes_by mids s v = map (λ x. code_of mids (div binary64 x s)) v

pub length_codes : (mids : List Float) (s : Float) (v : List Float) → length (codes_by mids s v) ≡ length v
length_codes mids s v = length-map v (λ x. code_of mids (div binary64 x s))

-- b is the pattern of coordinate i
pub record At (v : List Float) (i b : ℕ) : Type 0 where
  pub inside : i < length v
  pub is : get_or v i nan ≡ of_bits binary32 b

pub at_pattern : (bs : List ℕ) {i b : ℕ} → i < length bs → b ≡ get_or bs i 0 → At (map (of_bits binary32) bs) i b
at_pattern bs {i} h e = record { inside = rw (length-map bs (of_bits binary32)) h; is = rw e (number_at bs i h) }

-- the codes of the first i coordinates of v are stored, by g, in what was d
pub record Stored {A : Type 0} (levels : ℕ) (mids : List Float) (g : ℤ → A) (v : List Float) (d : List A) (s : Float) (i norm : ℕ) (out : List A) : Type 0 where
  pub fine : finites v ≡ true
  pub scale : s ≡ scale_of levels v
  pub plus : T (positive s)
  pub small : norm ≤ 16129 * i
  pub sum : norm ≡ squares (take i (codes_by mids s v))
  pub so : out ≡ take i (map g (codes_by mids s v)) ++ drop i d

-- all of them are
pub record Whole {A : Type 0} (levels : ℕ) (mids : List Float) (g : ℤ → A) (v : List Float) (s : Float) (total : ℕ) (out : List A) : Type 0 where
  pub plus : T (positive s)
  pub scale : s ≡ (encode levels mids v).scale
  pub norm : pos total ≡ (encode levels mids v).norm
  pub so : out ≡ map g (encode levels mids v).codes

module _ {levels : ℕ} {mids : List Float} {A : Type 0} {g : ℤ → A} {v : List Float} {d : List A} where
  -- bs are the patterns of v
  pub stored_start : {s : Float} → Levels levels → (bs : List ℕ) → map (of_bits binary32) bs ≡ v → finites v ≡ true → s ≡ scale_by levels (of_bits binary32 (largest_bits bs)) → Stored levels mids g v d s 0 0 d
  stored_start {s} l bs e h k =
      let f : finites (map (of_bits binary32) bs) ≡ true = rw e h in
      let c : s ≡ scale_of levels v = rw e at (scale-is bs f levels k) in
      record {
        fine = h;
        scale = c;
        plus = rw c (scale-plus l (largest v) (largest-plain v (rw e at (patterns_fit bs)) h));
        small = omega arith;
        sum = unfold squares in refl;
        so = refl;
      }

  module _ {s : Float} {i norm : ℕ} {out : List A} (f : Stored levels mids g v d s i norm out) where
    pub stored_asks : {b : ℕ} → At v i b → T (finite (of_bits binary32 b)) × T (positive s)
    stored_asks a = (rw a.is at (all-at finite v i nan f.fine a.inside), f.plus)

    -- m is the magnitude of coordinate i's code, x what is stored for it, p where
    pub stored_turn : {b m p n : ℕ} {x : A} → At v i b → (m ≡ not_above mids (abs (div binary64 (of_bits binary32 b) s))) × (m ≤ 127)
        → x ≡ g (signed_by (leb (2 ^ 31) b) m) → p ≡ i → i < length d → n ≡ norm + m * m → Stored levels mids g v d s (i + 1) n (set out p x)
    unfolding squares
    stored_turn {b} {m} {p} {n} {x} a k y z w u =
        let code : Float → ℤ = λ x. code_of mids (div binary64 x s) in
        let cs = codes_by mids s v in
        let o = code nan in
        let l = a.inside in
        let c : signed_by (leb (2 ^ 31) b) m ≡ get_or cs i o =
        code_is b s (stored_asks a).0 f.plus mids k.0 ∙ ap code (sym a.is) ∙ sym (get_or-map code v i nan) in
        let t : x ≡ get_or (map g cs) i (g o) = y ∙ ap g c ∙ sym (get_or-map g cs i o) in
        record {
          fine = f.fine;
          scale = f.scale;
          plus = f.plus;
          small = omega (arith, f.small, square_le m k.1);
          sum = rw (add-one i, take-suc cs i o (rw (length_codes mids s v) l), squares-append (take i cs) (get_or cs i o ∷ []), ← c, abs-signed (leb (2 ^ 31) b) m, ← f.sum) (omega arith);
          so = rw z (ap (λ o. set o i x) f.so ∙ copy_turn (map g cs) d i (g o) (rw (length-map cs g, length_codes mids s v) l) w t);
        }

    pub stored_done : i ≡ length v → length d ≡ length v → length v ≤ 4096 → Whole levels mids g v s norm out
    unfolding encode
    stored_done e l h =
        let cs = codes_by mids s v in
        record {
          plus = f.plus;
          scale = f.scale;
          norm = rw (← f.scale) (ap pos (f.sum ∙ ap squares (ap (λ n. take n cs) (e ∙ sym (length_codes mids s v)) ∙ take-length cs)));
          so = rw (← f.scale) (f.so ∙ rw (drop_of_length-le d {i = i} (omega arith), append-nil (take i (map g cs))) (ap (λ n. take n (map g cs)) (e ∙ sym (length-map cs g ∙ length_codes mids s v)) ∙ take-length (map g cs)));
        }
