-- What the encoder gives passes the row test, under every metric; with the bounds of its codes, norm and scale.
use Rattle.config.proofs.Coordinates.{all_cons, patterns_fit}
use mathlib.Core.Path.{◌≡◌, refl, sym, ap, ◌∙◌, subst}
use mathlib.Core.Bool.{true, false, not, ◌&&◌, true≢false}
use mathlib.Core.List.{List, [], ◌∷◌, map, ◌++◌, map-map}
use Prim.Native.Nat.{ℕ, ◌+◌, ◌-◌, ◌*◌, ◌%◌, ◌^◌, ◌≤◌, ◌<◌, max}
use native.Mathlib.Nat.{le_of_eq, mul-le-mul, mul-suc, zero-mul, mul-one}
use native.Mathlib.Omega.{arith}
use borrow.Author.Tests.{ltb-true, ltb-false, le-leb, le-ltb, lt-ltb, eq-eqb, ne_eqb}
use lib.Dec.{T, ltb, eqb, ltb→lt, lt→ltb, lit≤}
use lib.IntN.{ℤ, pos, nat_abs}
use lib.ListN.{length, get_or, length-map}
use lib.Ieee.{Float, nan, inf, fin, binary32, binary64, up, down, of_bits, to_bits, fits, div, le, lt, eq}
use lib.Ieee.Bits.{is_true}
use lib.Ieee.Fits.{and_l, and_r}
use lib.Ieee.Scale.{finite}
use lib.Ieee.Positive.{positive, positive_of_value}
use mir.Syntax.{w64}
use mir.Val.{SFits}
use Rattle.le.proofs.Chain.{by}
use Rattle.float.specs.Values.{plus_zero, one, abs}
use Rattle.float.specs.Order.{negative}
use Rattle.float.proofs.Within.{Within, half}
use Rattle.float.proofs.Bounds.{within-trans, within_of_le, le_of_within}
use Rattle.float.proofs.Patterns.{mag, mag_pos, plain_value, bits_finite}
use Rattle.float.proofs.Singles.{most32, positive_parts}
use Rattle.config.specs.Metric.{is_cosine}
use Rattle.config.specs.declared.Metric.{Metric}
use Rattle.config.specs.Vector.{all, finites, all_zero, valid_vector, largest_pattern_from, largest_bits}
use Rattle.config.proofs.Vectors.{zeros-largest, finites-largest, largest_ltb}
use Rattle.codes.specs.Codes.{squares, within}
use Rattle.quantization.specs.View.{row_bytes, row_at, valid_row}
use Rattle.quantization.specs.Encoder.{Levels, Table, largest, scale_by, scale_of, not_above, code_of, encode, midpoint, midpoints_of, base_levels, midpoints}
use Rattle.quantization.proofs.Midpoints.{levels_are, formula_at, rising, at_most, none, walked_to, walked_all}
use Rattle.quantization.proofs.Scales.{float, Plain, scale-part, scale-plus, scale-low, scale-high, scale-fits, bound_sign}
use Rattle.quantization.proofs.Coordinates.{of_patterns, largest-is, largest-small, largest-plain, code-abs, code-plain}
use Rattle.quantization.proofs.Codes.{abs-signed, within-at, within_more}
use Rattle.quantization.proofs.Rows.{reads_back}

-- ---- codes and norm, of every vector, level count and list of midpoints
pub code-most : (mids : List Float) (q : Float) → nat_abs (code_of mids q) ≤ length mids
unfolding code_of
code-most mids q = rw (abs-signed (negative q) (not_above mids (abs q))) (at_most mids (abs q))

module _ {A : Type 0} (f : A → ℤ) (k : ℕ) (h : (x : A) → nat_abs (f x) ≤ k) where
  within_all : (v : List A) → within k (map f v) ≡ true
  unfolding within
  within_all [] = refl
  within_all (x ∷ v) = rw (le-leb (nat_abs (f x)) k (h x), within_all v)

  squares-most : (v : List A) → squares (map f v) ≤ k * k * length v
  unfolding squares
  squares-most [] = omega arith
  squares-most (x ∷ v) = rw (mul-suc (k * k) (length v)) (omega (arith, squares-most v, mul-le-mul (h x) (h x)))

module _ (levels : ℕ) (mids v : List Float) where
  abbrev code : Float → ℤ
  code x = code_of mids (div binary64 x (scale_of levels v))

  pub encoded_length : length (encode levels mids v).codes ≡ length v
  unfolding encode
  encoded_length = length-map v code

  pub encoded-within : within (length mids) (encode levels mids v).codes ≡ true
  unfolding encode
  encoded-within = within_all code (length mids) (λ x. code-most mids (div binary64 x (scale_of levels v))) v

  pub encoded-norm : nat_abs (encode levels mids v).norm ≤ length mids * length mids * length v
  unfolding encode
  encoded-norm = squares-most code (length mids) (λ x. code-most mids (div binary64 x (scale_of levels v))) v

  pub scale_fit : T (fits binary64 (encode levels mids v).scale)
  unfolding encode
  scale_fit = scale-fits levels (largest v)

-- ---- with one midpoint a level, whatever they are
module _ (levels : ℕ) (mids : List Float) (c : length mids ≡ levels) (v : List Float) where
  pub codes-within : within levels (encode levels mids v).codes ≡ true
  codes-within = rw c at (encoded-within levels mids v)

  pub code-at : (i : ℕ) → nat_abs (get_or (encode levels mids v).codes i (pos 0)) ≤ levels
  code-at i = within-at levels (encode levels mids v).codes i codes-within

  pub norm-most : nat_abs (encode levels mids v).norm ≤ levels * levels * length v
  norm-most = rw c at (encoded-norm levels mids v)

  pub norm-fits : levels ≤ 127 → length v ≤ 4096 → SFits w64 (encode levels mids v).norm
  unfolding encode
  norm-fits g h = record { sfits = omega (arith, norm-most, mul-le-mul (mul-le-mul g g) h) }

  -- the row that is written is read back
  pub written_reads : levels ≤ 127 → (p q : List ℕ) → length v ≤ 4096 → row_at (length v) (p ++ row_bytes (encode levels mids v) ++ q) (length p) ≡ encode levels mids v
  written_reads g p q h =
      let r = encode levels mids v in
      rw (encoded_length levels mids v) at (reads_back r p q (scale_fit levels mids v) (norm-fits g h) (within_more levels 127 g r.codes codes-within))

-- ---- the scale
module _ {levels : ℕ} (g : Levels levels) (mids v : List Float) (f : all (fits binary32) v ≡ true) (h : finites v ≡ true) where
  pub scale_positive : T (positive (encode levels mids v).scale)
  unfolding encode
  scale_positive = scale-plus g (largest v) (largest-plain v f h)

  -- from 2 ^ -149 / levels to the largest f32 / levels
  pub scale-range : T (le (div binary64 (half 148) (float levels)) (encode levels mids v).scale) × T (le (encode levels mids v).scale (div binary64 most32 (float levels)))
  unfolding encode
  scale-range =
      let p = largest-plain v f h in
      let s = scale_of levels v in
      let w = (positive_parts s (scale-plus g (largest v) p)).1 in (
        le_of_within (div binary64 (half 148) (float levels)) s (bound_sign g (half 148) tt refl) w (scale-low g (largest v) p),
        le_of_within s (div binary64 most32 (float levels)) w (bound_sign g most32 tt refl) (scale-high g (largest v) p),
      )

-- ---- the code of the largest coordinate, whose quotient is at least levels - 1/2: with the formula's midpoints the level count, with
-- any others at least 1
full : {levels : ℕ} → Levels levels → (z : Float) → negative z ≡ false → Within (midpoint (levels - 1)) z → not_above (midpoints_of levels) z ≡ levels
full {levels} g z p h =
    sym (walked_all levels (walked_to levels (le_of_eq (sym (levels_are levels))) (λ j l.
    rw (formula_at levels j l) (is_true (le (midpoint j) z) (le_of_within (midpoint j) z refl p (within-trans (rising j (levels - 1) (omega arith)) h))))) (omega arith))

first_counts : (mids : List Float) (z : Float) → le (get_or mids 0 nan) z ≡ true → 1 ≤ not_above mids z
unfolding not_above le
first_counts [] z h = absurd (true≢false (sym h))
first_counts (m ∷ mids) z h = rw h (omega arith)

reached : {levels : ℕ} {mids : List Float} → Levels levels → Table levels mids → (z : Float) → negative z ≡ false → Within (midpoint (levels - 1)) z → 1 ≤ not_above mids z
reached {levels} {mids} g t z p h =
    let m = get_or mids 0 nan in
    let w = positive_parts m (t.plus 0 g.0) in
    let b : T (le m (midpoint (levels - 1))) = rw t.first tt in
    first_counts mids z (is_true (le m z) (le_of_within m z w.1 p (within-trans (within_of_le m (midpoint (levels - 1)) w.1 refl tt b) h)))

at_least : (m : ℕ) (bs : List ℕ) → m ≤ largest_pattern_from m bs
unfolding largest_pattern_from
at_least m [] = omega arith
at_least m (b ∷ bs) = omega (arith, at_least (max m (b % 2147483648)) bs)

-- a code of k at the largest pattern makes a norm of k * k at least
reaches : (f : ℕ → ℤ) (k m : ℕ) (bs : List ℕ) → m < largest_pattern_from m bs → ((b : ℕ) → b % 2147483648 ≡ largest_pattern_from m bs → k ≤ nat_abs (f b)) → k * k ≤ squares (map f bs)
unfolding largest_pattern_from squares
reaches f k m [] l h = absurd (omega arith)
reaches f k m (b ∷ bs) l h =
    let n = max m (b % 2147483648) in
    by (ltb n (largest_pattern_from n bs))
    (λ t. omega (arith, reaches f k n bs (ltb-true n (largest_pattern_from n bs) t) h))
    (λ t. let e : b % 2147483648 ≡ largest_pattern_from n bs = omega (arith, at_least n bs, ltb-false n (largest_pattern_from n bs) t) in omega (arith, mul-le-mul (h b e) (h b e)))

module _ {levels : ℕ} (g : Levels levels) (bs : List ℕ) (h : finites (map (of_bits binary32) bs) ≡ true) where
  abbrev vector : List Float
  vector = map (of_bits binary32) bs

  abbrev scale : Float
  scale = scale_of levels vector

  abbrev code_at : List Float → ℕ → ℤ
  code_at mids b = code_of mids (div binary64 (of_bits binary32 b) scale)

  plain : Plain (largest vector)
  plain = largest-plain vector (patterns_fit bs) h

  -- the largest magnitude's quotient z, and the code by any midpoints
  quotient : 0 < largest_bits bs → (b : ℕ) → b % 2147483648 ≡ largest_bits bs
      → let z = div binary64 (of_bits binary32 (largest_bits bs)) scale in
      (negative z ≡ false) × Within (midpoint (levels - 1)) z × ((mids : List Float) → nat_abs (code_at mids b) ≡ not_above mids z)
  unfolding code_of
  quotient p b e =
      let m = largest_bits bs in
      let l = largest-small bs h in
      let x = of_bits binary32 m in
      let k = largest-is bs h in
      let w = scale-plus g (largest vector) plain in
      let fine = bits_finite binary32 b (rw e l) in
      let above = positive_of_value x (mag binary32 m) (2 ^ 149) (plain_value binary32 m l) (mag_pos binary32 m p) in
      let part = rw k at (scale-part g (largest vector) plain (rw k above)) in (
        rw e at (code-plain b scale fine w).1,
        rw k part.least,
        λ mids. abs-signed (negative (div binary64 (of_bits binary32 b) scale)) (not_above mids (abs (div binary64 (of_bits binary32 b) scale))) ∙ rw (code-abs b scale fine w, e),
      )

  largest-code : 0 < largest_bits bs → (b : ℕ) → b % 2147483648 ≡ largest_bits bs → nat_abs (code_at (midpoints_of levels) b) ≡ levels
  largest-code p b e = let q = quotient p b e in q.2 (midpoints_of levels) ∙ full g (div binary64 (of_bits binary32 (largest_bits bs)) scale) q.0 q.1

  formula_norm : 0 < largest_bits bs → levels * levels ≤ squares (encode levels (midpoints_of levels) vector).codes
  unfolding encode
  formula_norm p =
      rw (map-map (λ x. code_of (midpoints_of levels) (div binary64 x scale)) (of_bits binary32) bs)
      (reaches (code_at (midpoints_of levels)) levels 0 bs p (λ b e. le_of_eq (sym (largest-code p b e))))

  some-norm : {mids : List Float} → Table levels mids → 0 < largest_bits bs → 1 ≤ squares (encode levels mids vector).codes
  unfolding encode
  some-norm {mids} t p =
      rw (map-map (λ x. code_of mids (div binary64 x scale)) (of_bits binary32) bs)
      (reaches (code_at mids) 1 0 bs p (λ b e. let q = quotient p b e in rw (q.2 mids) (reached g t (div binary64 (of_bits binary32 (largest_bits bs)) scale) q.0 q.1)))

-- ---- the row test
above_zero : (x : Float) → T (positive x) → lt plus_zero x ≡ true
unfolding lt
above_zero nan h = absurd h
above_zero (inf s) h = absurd h
above_zero (fin true m e) h = absurd h
above_zero (fin false m e) h =
    let k = (positive_parts (fin false m e) h).2 in
    rw (zero-mul (down e), mul-one (m * up e)) (lt-ltb 0 (m * up e) k)

module _ {levels : ℕ} {mids : List Float} (g : Levels levels) (t : Table levels mids) where
  valid_patterns : (metric : Metric) (d : ℕ) (bs : List ℕ) → valid_vector metric d (map (of_bits binary32) bs) ≡ true
      → valid_row levels metric (encode levels mids (map (of_bits binary32) bs)) ≡ true
  unfolding valid_vector valid_row encode
  valid_patterns metric d bs h =
      let v = map (of_bits binary32) bs in
      let a = eqb (length v) d in
      let b = finites v in
      let z = is_cosine metric && all_zero v in
      let o : T (a && b && not z) = rw h tt in
      let f : b ≡ true = is_true b (and_r a b (and_l (a && b) (not z) o)) in
      let n : T (not z) = and_r (a && b) (not z) o in
      let s = scale_of levels v in
      let w = scale_positive g mids v (patterns_fit bs) f in
      let r = squares (encode levels mids v).codes in
      let c : not (is_cosine metric && eqb r 0) ≡ true =
      by (is_cosine metric)
      (λ p. let k = some-norm g bs f t (some p n) in rw (p, ne_eqb r 0 (λ q. omega arith)))
      (λ p. rw p) in
      rw (is_true (finite s) (positive_parts s w).0, above_zero s w, codes-within levels mids t.count v, eq-eqb r r refl, c)
    where
      some : is_cosine metric ≡ true → T (not (is_cosine metric && all_zero (map (of_bits binary32) bs))) → 0 < largest_bits bs
      some p n =
          by (ltb (largest_bits bs) 1)
          (λ t. absurd (rw (p, zeros-largest bs, t) at n))
          (λ t. ltb-false (largest_bits bs) 1 t)

  -- what passes the vector test is encoded as a row that passes the row test
  pub encoded-valid : (metric : Metric) (d : ℕ) (v : List Float) → all (fits binary32) v ≡ true → valid_vector metric d v ≡ true → valid_row levels metric (encode levels mids v) ≡ true
  encoded-valid metric d v f h =
      let e = of_patterns v f in
      subst (λ (x : List Float). valid_row levels metric (encode levels mids x) ≡ true) e (valid_patterns metric d (map (to_bits binary32) v) (rw e h))

-- the norm of a vector that is not zero: at least 1, and with the formula's midpoints at least the level count squared
not_zeros : (bs : List ℕ) → all_zero (map (of_bits binary32) bs) ≡ false → 0 < largest_bits bs
not_zeros bs h = ltb-false (largest_bits bs) 1 (sym (zeros-largest bs) ∙ h)

module _ {levels : ℕ} (g : Levels levels) (v : List Float) (f : all (fits binary32) v ≡ true) (h : finites v ≡ true) (n : all_zero v ≡ false) where
  pub norm-some : {mids : List Float} → Table levels mids → 1 ≤ squares (encode levels mids v).codes
  norm-some {mids} t =
      let e = of_patterns v f in
      let bs = map (to_bits binary32) v in
      subst (λ (x : List Float). 1 ≤ squares (encode levels mids x).codes) e (some-norm g bs (rw e h) t (not_zeros bs (rw e n)))

  pub norm-full : levels * levels ≤ squares (encode levels (midpoints_of levels) v).codes
  norm-full =
      let e = of_patterns v f in
      let bs = map (to_bits binary32) v in
      subst (λ (x : List Float). levels * levels ≤ squares (encode levels (midpoints_of levels) x).codes) e (formula_norm g bs (rw e h) (not_zeros bs (rw e n)))

-- ---- a zero vector
not_under : (m : Float) → T (positive m) → le m plus_zero ≡ false
unfolding le lt eq
not_under nan h = absurd h
not_under (inf s) h = absurd h
not_under (fin true m e) h = absurd h
not_under (fin false m e) h =
    let k = (positive_parts (fin false m e) h).2 in
    rw (zero-mul (down e), mul-one (m * up e), le-ltb (m * up e) 0 (omega arith), ne_eqb (m * up e) 0 (λ q. omega arith))

zero_quotient : div binary64 (of_bits binary32 0) one ≡ plus_zero
unfolding div of_bits
zero_quotient = refl

module _ {levels : ℕ} {mids : List Float} (t : Table levels mids) where
  zero_code : not_above mids (div binary64 (of_bits binary32 0) one) ≡ 0
  zero_code = rw zero_quotient (none mids plus_zero (λ i l. not_under (get_or mids i nan) (t.plus i (rw (← t.count) l))))

  no_squares : (bs : List ℕ) → all (λ b. ltb (b % 2147483648) 1) bs ≡ true → squares (map (λ b. code_of mids (div binary64 (of_bits binary32 b) one)) bs) ≡ 0
  unfolding squares code_of
  no_squares [] h = refl
  no_squares (b ∷ bs) h =
      let k = all_cons (λ b. ltb (b % 2147483648) 1) b bs h in
      let z : b % 2147483648 ≡ 0 = omega (arith, ltb→lt (b % 2147483648) 1 k.0) in
      let q = div binary64 (of_bits binary32 b) one in
      let n : nat_abs (code_of mids q) ≡ 0 =
      abs-signed (negative q) (not_above mids (abs q)) ∙ rw (code-abs b one (bits_finite binary32 b (omega arith)) tt, z) zero_code in
      rw (n, no_squares bs k.1)

  zero_patterns : (bs : List ℕ) → all_zero (map (of_bits binary32) bs) ≡ true
      → let r = encode levels mids (map (of_bits binary32) bs) in (r.scale ≡ one) × (r.norm ≡ pos 0)
  unfolding encode scale_by
  zero_patterns bs h =
      let l = sym (zeros-largest bs) ∙ h in
      let m : largest_bits bs ≡ 0 = omega (arith, ltb-true (largest_bits bs) 1 l) in
      let f : finites (map (of_bits binary32) bs) ≡ true = finites-largest bs ∙ rw m in
      let s : scale_of levels (map (of_bits binary32) bs) ≡ one = rw (largest-is bs f, m) (unfold of_bits eq in refl) in
      (s, rw (s, map-map (λ x. code_of mids (div binary64 x one)) (of_bits binary32) bs) (ap pos (no_squares bs (sym (largest_ltb 1 0 bs) ∙ l))))

  pub zero_row : (v : List Float) → all (fits binary32) v ≡ true → all_zero v ≡ true → let r = encode levels mids v in (r.scale ≡ one) × (r.norm ≡ pos 0)
  zero_row v f h = let e = of_patterns v f in rw e at (zero_patterns (map (to_bits binary32) v) (rw e h))

-- ---- the formula's midpoints, and the base
pub formula : {levels : ℕ} → Levels levels → Table levels (midpoints_of levels)
formula {levels} g =
    let a = formula_at levels 0 g.0 in
    record {
      count = levels_are levels;
      first = rw a (is_true (le (midpoint 0) (midpoint (levels - 1))) (le_of_within (midpoint 0) (midpoint (levels - 1)) refl refl (rising 0 (levels - 1) (omega arith))));
      plus = λ i h. rw (formula_at levels i h) (lt→ltb 0 (2 * i + 1) (omega arith));
    }

pub base : Levels base_levels
base = (lit≤ tt, lit≤ tt)

pub base-count : length midpoints ≡ base_levels
base-count = levels_are base_levels

pub base-table : Table base_levels midpoints
base-table = formula base
