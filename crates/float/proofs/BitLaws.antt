-- What a bit pattern says of its value, over both formats: whether it is finite, and whether it is a NaN. Assumes
-- nothing.
use mathlib.Core.Path.{◌≡◌, refl, sym, ◌∙◌, subst}
use mathlib.Core.Bool.{Bool, true, false, not, ◌&&◌, cond, false≢true, true≢false}
use Prim.Native.Nat.{ℕ, zero, suc, ◌+◌, ◌*◌, ◌/◌, ◌%◌, ◌^◌, ◌<◌, ◌≤◌}
use native.Mathlib.Omega.{arith}
use borrow.Author.Tests.{ne_eqb, lt-ltb, le-ltb, ltb-false}
use lib.Dec.{T, leb, eqb}
use lib.Ieee.{Float, nan, inf, fin, Format, prec, low, hid, top, ones, odd, of_fields, of_bits, to_bits, nan_bits, is_nan, binary32, binary64, fits, lt, ne}
use lib.Ieee.Exact.{HasValue, odd_sign}
use lib.Ieee.Fits.{and_i, fits_widens}
use lib.Ieee.Bits.{is_true, is_false, nan_bits_is, nan_bits_above, of_bits-fits, of_bits-to_bits, to_bits-lt}
use lib.Ieee.Scale.{finite}
use Rattle.le.proofs.Chain.{by}
use Rattle.float.specs.Values.{number}
use Rattle.float.specs.Order.{negative}
use Rattle.std.specs.Prelude.{Some, None}
use Rattle.std.specs.Float.{float_is_finite}

-- ---- what a value a / c with the sign s is
pub value_finite : (x : Float) (s : Bool) (a c : ℕ) → HasValue x s a c → T (finite x)
value_finite nan s a c h = absurd h
value_finite (inf t) s a c h = absurd h
value_finite (fin t m e) s a c h = tt

pub value_sign : (x : Float) (s : Bool) (a c : ℕ) → HasValue x s a c → negative x ≡ s
value_sign nan s a c h = absurd h
value_sign (inf t) s a c h = absurd h
value_sign (fin t m e) s a c h = h.0

-- ---- finite: the exponent's field is not all ones
abbrev pub field : Format → ℕ → ℕ
field f b = b % top f / hid f

odd_finite : (d : ℕ) (s : Bool) (q k l : ℕ) → finite (odd d s q k l) ≡ true
odd_finite d s q k l = is_true (finite (odd d s q k l)) (value_finite (odd d s q k l) s (q * 2 ^ k) (2 ^ l) (odd_sign d s q k l))

special : (b s : Bool) → finite (cond b (inf s) nan) ≡ false
special true s = refl
special false s = refl

fields_finite : (f : Format) (s : Bool) (x t : ℕ) → finite (of_fields f s x t) ≡ not (eqb x (ones f))
unfolding of_fields
fields_finite f s zero t = rw (ne_eqb 0 (ones f) (λ e. omega arith)) (odd_finite (prec f) s t 0 (low f))
fields_finite f s (suc x) t =
    by (eqb (suc x) (ones f)) (λ e. rw e (special (eqb t 0) s)) (λ e. rw e (odd_finite (prec f) s (hid f + t) x (low f)))

pub finite_bits : (f : Format) (b : ℕ) → finite (of_bits f b) ≡ not (eqb (field f b) (ones f))
unfolding of_bits
finite_bits f b = fields_finite f (leb (top f) b) (field f b) (b % hid f)

-- as std's `is_finite` says it
pub same_finite : (x : Float) → float_is_finite x ≡ finite x
unfolding float_is_finite
same_finite nan = refl
same_finite (inf s) = refl
same_finite (fin s m e) = refl

-- a value that is above another is finite where it lies below the upper infinity
pub finite_over : (b x : Float) → (lt b x && lt x (inf false)) ≡ (lt b x && finite x)
unfolding lt
finite_over nan x = refl
finite_over (inf s) nan = refl
finite_over (inf true) (inf true) = refl
finite_over (inf false) (inf true) = refl
finite_over (inf true) (inf false) = refl
finite_over (inf false) (inf false) = refl
finite_over (inf s) (fin t m e) = refl
finite_over (fin s m e) nan = refl
finite_over (fin s m e) (inf true) = refl
finite_over (fin s m e) (inf false) = refl
finite_over (fin s m e) (fin t n d) = refl

-- ---- what a caller is told
pub number_finite : (x : Float) → finite x ≡ true → number x ≡ Some x
unfolding number
number_finite nan h = absurd (false≢true h)
number_finite (inf s) h = absurd (false≢true h)
number_finite (fin s m e) h = refl

pub number_not : (x : Float) → finite x ≡ false → number x ≡ None
unfolding number
number_not nan h = refl
number_not (inf s) h = refl
number_not (fin s m e) h = absurd (true≢false h)

-- ---- no NaN
pub finite_number : (x : Float) → T (finite x) → T (not (is_nan x))
unfolding is_nan
finite_number nan h = absurd h
finite_number (inf s) h = absurd h
finite_number (fin s m e) h = tt

pub number_of_lt : (x y : Float) → lt x y ≡ true → T (not (is_nan x))
unfolding lt is_nan
number_of_lt nan y h = absurd (false≢true h)
number_of_lt (inf s) y h = tt
number_of_lt (fin s m e) y h = tt

pub number_of_gt : (x y : Float) → lt x y ≡ true → T (not (is_nan y))
unfolding lt is_nan
number_of_gt nan nan h = absurd (false≢true h)
number_of_gt (inf s) nan h = absurd (false≢true h)
number_of_gt (fin s m e) nan h = absurd (false≢true h)
number_of_gt x (inf s) h = tt
number_of_gt x (fin s m e) h = tt

pub number_of_ne : (x : Float) → ne x x ≡ false → T (not (is_nan x))
unfolding ne is_nan
number_of_ne nan h = absurd (true≢false h)
number_of_ne (inf s) h = tt
number_of_ne (fin s m e) h = tt

pub is_nan_lem : (x : Float) → is_nan x ≡ true → x ≡ nan
unfolding is_nan
is_nan_lem nan h = refl
is_nan_lem (inf s) h = absurd (false≢true h)
is_nan_lem (fin s m e) h = absurd (false≢true h)

module _ (f : Format) (b : ℕ) where
  -- no NaN reaches `from_bits`
  pub no_nan : finite (of_bits f b) ≡ true → T (not (nan_bits f b))
  no_nan h = rw (nan_bits_is f b) (finite_number (of_bits f b) (rw h tt))

  -- the same by one comparison of the pattern without its sign
  pub above_nan : ones f * hid f < b % top f → of_bits f b ≡ nan
  above_nan h = is_nan_lem (of_bits f b) (sym (nan_bits_is f b) ∙ nan_bits_above f b ∙ lt-ltb (ones f * hid f) (b % top f) h)

  pub below-number : b % top f ≤ ones f * hid f → T (not (nan_bits f b))
  below-number h = rw (nan_bits_above f b, le-ltb (ones f * hid f) (b % top f) h) tt

  pub bits-number : b % top f ≤ ones f * hid f → is_nan (of_bits f b) ≡ false
  bits-number h = is_false (is_nan (of_bits f b)) (rw (nan_bits_is f b) at (below-number h))

  pub number-below : T (not (is_nan (of_bits f b))) → b % top f ≤ ones f * hid f
  number-below h = ltb-false (ones f * hid f) (b % top f) (sym (nan_bits_above f b) ∙ nan_bits_is f b ∙ is_false (is_nan (of_bits f b)) h)

-- what `x as f64` asks of an f32 that was read from its bits
pub widens : (b : ℕ) → T (not (nan_bits binary32 b)) → T (fits binary64 (of_bits binary32 b) && not (is_nan (of_bits binary32 b)))
widens b h =
    and_i (fits binary64 (of_bits binary32 b)) (not (is_nan (of_bits binary32 b))) (fits_widens (of_bits binary32 b) (of_bits-fits binary32 b)) (rw (nan_bits_is binary32 b) at h)

-- `f64::NAN`
pub not_number : of_bits binary64 9221120237041090560 ≡ nan
unfolding of_bits
not_number = refl

-- ---- what is known of x is known of what its bits stand for
pub through_bits : (P : Float → Type 0) (x : Float) → fits binary64 x ≡ true → P (of_bits binary64 (to_bits binary64 x)) → P x
through_bits P x f p = subst P (of_bits-to_bits binary64 x (rw f tt)) p

pub pattern_lt : (x : Float) → fits binary64 x ≡ true → to_bits binary64 x < 2 ^ 64
pattern_lt x f = to_bits-lt binary64 x (rw f tt)
