-- What a pattern stands for, its size in units of the smallest number, its sign, and the order of patterns, over both
-- formats.
use mathlib.Core.Path.{◌≡◌, refl, ap, sym, ◌∙◌, subst}
use mathlib.Core.Logic.{◌⊎◌, inl, inr}
use mathlib.Core.Bool.{Bool, true, false, cond, ◌&&◌, and-true, and-false, true≢false, false≢true}
use Prim.Native.Nat.{ℕ, zero, suc, ◌+◌, ◌-◌, ◌*◌, ◌/◌, ◌%◌, ◌^◌, ◌≤◌, ◌<◌, zero-le}
use native.Mathlib.Nat.{mul_right_comm, mul-le-mul, mul-le-mul_right, le_refl, two-pow-succ, mul-add, add-mul, mul_assoc, mul-one, mul-lt-mul_of_pos_right, lt_of_mul-lt-mul_right, lt_of_lt_of_le, lt_of_le_of_lt, le_trans, le_of_lt, le_of_eq, eq-or-lt_of_le, mod-lt, mod-mod, mod-mod_of_dvd, dvd-mul_right, mod-eq_of_lt, div-add-mod', div-lt_iff_lt-mul, mul-div_cancel, mul-mod_left, mul-pos, zero-lt-suc}
use native.Mathlib.Decide.{dec_lt}
use native.Mathlib.Omega.{arith}
use lib.Pow.{pow_pos, pow_mono}
use lib.Dec.{T, ltb, leb, eqb}
use borrow.Author.Tests.{lt-ltb, le-ltb, lt-leb, le-leb, eq-eqb, ne_eqb, ltb-false}
use lib.IntN.{ℤ}
use lib.Ieee.{Float, nan, inf, fin, Format, binary32, binary64, prec, low, hid, top, ones, up, down, odd, of_fields, of_bits, to_bits, fits, size, lt, below}
use lib.Ieee.Exact.{HasValue, odd_sign}
use lib.Ieee.Fits.{down_pos}
use lib.Ieee.Bits.{is_true, of_bits-to_bits}
use lib.Ieee.Nearest.{div_mono}
use lib.Ieee.Order.{transfer}
use lib.Ieee.Scale.{finite}
use Rattle.le.proofs.Chain.{by}
use Rattle.float.specs.Values.{plus_zero, abs}
use Rattle.float.specs.Order.{negative}
use Rattle.float.proofs.BitLaws.{value_finite, value_sign, finite_number, number-below}

-- two tests that say the same
pub same_ltb : (a b x y : ℕ) → (a < b → x < y) → (b ≤ a → y ≤ x) → ltb x y ≡ ltb a b
same_ltb a b x y f g = go (dec_lt a b)
  where
    go : Dec (a < b) → ltb x y ≡ ltb a b
    go (yes h) = lt-ltb x y (f h) ∙ sym (lt-ltb a b h)
    go (no h) = le-ltb x y (g (omega arith)) ∙ sym (le-ltb a b (omega arith))

-- ---- a pattern's size in units of the smallest number: by the field x and the digits t below the leading one
abbrev pub mag_of : Format → ℕ → ℕ → ℕ
mag_of f zero t = t
mag_of f (suc k) t = (hid f + t) * 2 ^ k

abbrev pub mag : Format → ℕ → ℕ
mag f b = mag_of f (b / hid f) (b % hid f)

module _ (f : Format) where
  pub hid_pos : 0 < hid f
  hid_pos = pow_pos (prec f - 1)

  under : (x t : ℕ) → t < hid f → mag_of f x t < hid f * 2 ^ x
  under zero t h = rw (mul-one (hid f)) h
  under (suc k) t h =
      let s : hid f + t < hid f + hid f = omega arith in
      rw (two-pow-succ k) (omega (arith, mul-lt-mul_of_pos_right s (pow_pos k), add-mul (hid f) (hid f) (2 ^ k), mul-add (hid f) (2 ^ k) (2 ^ k)))

  over : (k t : ℕ) → hid f * 2 ^ k ≤ mag_of f (suc k) t
  over k t = let s : hid f ≤ hid f + t = omega arith in mul-le-mul_right (2 ^ k) s

  later_field : (x t y u : ℕ) → t < hid f → x < y → mag_of f x t < mag_of f y u
  later_field x t zero u h l = absurd (omega arith)
  later_field x t (suc k) u h l =
      let s : x ≤ k = omega arith in
      lt_of_lt_of_le (under x t h) (le_trans (mul-le-mul (le_refl (hid f)) (pow_mono s)) (over k u))

  later_tail : (x t u : ℕ) → t < u → mag_of f x t < mag_of f x u
  later_tail zero t u h = h
  later_tail (suc k) t u h = let s : hid f + t < hid f + u = omega arith in mul-lt-mul_of_pos_right s (pow_pos k)

  pub mag_mono : (a b : ℕ) → a < b → mag f a < mag f b
  mag_mono a b l = go (dec_lt (a / hid f) (b / hid f))
    where
      go : Dec (a / hid f < b / hid f) → mag f a < mag f b
      go (yes k) = later_field (a / hid f) (a % hid f) (b / hid f) (b % hid f) (mod-lt a hid_pos) k
      go (no k) =
          let m : a / hid f ≤ b / hid f = div_mono a (hid f) b (hid f) hid_pos hid_pos (mul-le-mul_right (hid f) (le_of_lt l)) in
          let e : a / hid f ≡ b / hid f = omega arith in
          let r = ap (λ (n : ℕ). n * hid f) e in
          let t : a % hid f < b % hid f = omega (arith, div-add-mod' a (hid f), div-add-mod' b (hid f)) in
          subst (λ (n : ℕ). mag_of f n (a % hid f) < mag f b) (sym e) (later_tail (b / hid f) (a % hid f) (b % hid f) t)

  mags : (a b : ℕ) → ltb (mag f a) (mag f b) ≡ ltb a b
  mags a b = same_ltb a b (mag f a) (mag f b) (mag_mono a b) (λ h. at_most (eq-or-lt_of_le h))
    where
      at_most : (b ≡ a) ⊎ (b < a) → mag f b ≤ mag f a
      at_most (inl e) = le_of_eq (ap (mag f) e)
      at_most (inr l) = le_of_lt (mag_mono b a l)

-- ---- the value
fields_value : (f : Format) (s : Bool) (x t : ℕ) → x < ones f → HasValue (of_fields f s x t) s (mag_of f x t) (2 ^ low f)
unfolding of_fields
fields_value f s zero t h = subst (λ (n : ℕ). HasValue (odd (prec f) s t 0 (low f)) s n (2 ^ low f)) (mul-one t) (odd_sign (prec f) s t 0 (low f))
fields_value f s (suc k) t h = rw (ne_eqb (suc k) (ones f) (λ e. omega arith)) (odd_sign (prec f) s (hid f + t) k (low f))

fields_inf : (f : Format) (s : Bool) (x t : ℕ) → x ≡ ones f → t ≡ 0 → of_fields f s x t ≡ inf s
unfolding of_fields
fields_inf f s zero t h e = absurd (omega arith)
fields_inf f s (suc x) t h e = rw (eq-eqb (suc x) (ones f) h, eq-eqb t 0 e)

module _ (f : Format) (b : ℕ) where
  -- the digits are the same without the sign
  digits_same : b % top f % hid f ≡ b % hid f
  digits_same = mod-mod_of_dvd (hid f) b (dvd-mul_right (hid f) (suc (ones f)))

  pub pattern-value : b % top f < ones f * hid f → HasValue (of_bits f b) (leb (top f) b) (mag f (b % top f)) (2 ^ low f)
  unfolding of_bits
  pattern-value h = rw digits_same (fields_value f (leb (top f) b) (b % top f / hid f) (b % hid f) ((div-lt_iff_lt-mul (hid_pos f)).1 h))

  pub pattern-inf : b % top f ≡ ones f * hid f → of_bits f b ≡ inf (leb (top f) b)
  unfolding of_bits
  pattern-inf h =
      fields_inf f (leb (top f) b) (b % top f / hid f) (b % hid f) (ap (λ (n : ℕ). n / hid f) h ∙ mul-div_cancel (ones f) (hid_pos f))
      (sym digits_same ∙ ap (λ (n : ℕ). n % hid f) h ∙ mul-mod_left (ones f) (hid f))

  -- the sign, of every number
  pub sign_bits : b % top f ≤ ones f * hid f → negative (of_bits f b) ≡ leb (top f) b
  sign_bits h = elim (eq-or-lt_of_le h) [
    | inl e ↦ rw (pattern-inf e)
    | inr l ↦ value_sign (of_bits f b) (leb (top f) b) (mag f (b % top f)) (2 ^ low f) (pattern-value l)
  ]

  -- a finite number's pattern, and back
  pub small-bits : T (finite (of_bits f b)) → b % top f < ones f * hid f
  small-bits h = elim (eq-or-lt_of_le (number-below f b (finite_number (of_bits f b) h))) [
    | inl e ↦ absurd (rw (pattern-inf e) at h)
    | inr l ↦ l
  ]

  pub bits_finite : b % top f < ones f * hid f → T (finite (of_bits f b))
  bits_finite h = value_finite (of_bits f b) (leb (top f) b) (mag f (b % top f)) (2 ^ low f) (pattern-value h)

-- ---- a pattern without a sign
pub plain_lt : (f : Format) (b : ℕ) → b ≤ ones f * hid f → b < top f
plain_lt binary32 b h = omega arith
plain_lt binary64 b h = omega arith

pub plain_value : (f : Format) (b : ℕ) → b < ones f * hid f → HasValue (of_bits f b) false (mag f b) (2 ^ low f)
plain_value f b h =
    let t = plain_lt f b (le_of_lt h) in
    let e : b % top f ≡ b = mod-eq_of_lt t in
    rw (lt-leb (top f) b t, e) at (pattern-value f b (rw e h))

pub mag_pos : (f : Format) (b : ℕ) → 0 < b → 0 < mag f b
mag_pos f b h = lt_of_le_of_lt zero-le (mag_mono f 0 b h)

-- ---- the order: two numbers as fractions of one denominator
scaled : (m n u v dx dy a b c : ℕ) → 0 < dx → 0 < dy → m * u * c ≡ a * dx → n * v * c ≡ b * dy → a < b → m * u * dy < n * v * dx
scaled m n u v dx dy a b c q r e f h =
    lt_of_mul-lt-mul_right c
    (subst (λ (z : ℕ). z < n * v * dx * c) (sym (mul_right_comm (m * u) dy c ∙ ap (λ (z : ℕ). z * dy) e))
    (subst (λ (z : ℕ). a * dx * dy < z) (sym (mul_right_comm (n * v) dx c ∙ ap (λ (z : ℕ). z * dx) f ∙ mul_right_comm b dy dx))
    (mul-lt-mul_of_pos_right (mul-lt-mul_of_pos_right h q) r)))

cross : (m n : ℕ) (e d : ℤ) (a b c : ℕ) → 0 < c → m * up e * c ≡ a * down e → n * up d * c ≡ b * down d → ltb (m * up e * down d) (n * up d * down e) ≡ ltb a b
cross m n e d a b c p h k =
    same_ltb a b (m * up e * down d) (n * up d * down e) (λ l. scaled m n (up e) (up d) (down e) (down d) a b c (down_pos e) (down_pos d) h k l)
    (λ l. transfer (n * up d) (m * up e) (down d) (down e) b a c c p p k h (mul-le-mul l (le_refl c)))

pub lt_values : (s : Bool) (x y : Float) (a b c : ℕ) → 0 < c → HasValue x s a c → HasValue y s b c → lt x y ≡ below s a s b
unfolding lt
lt_values s nan y a b c p h k = absurd h
lt_values s (inf t) y a b c p h k = absurd h
lt_values s (fin t m e) nan a b c p h k = absurd k
lt_values s (fin t m e) (inf u) a b c p h k = absurd k
lt_values s (fin t m e) (fin u n d) a b c p h k = rw (h.0, k.0) (go s)
  where
    go : (s : Bool) → below s (m * up e * down d) s (n * up d * down e) ≡ below s a s b
    go false = cross m n e d a b c p h.1 k.1
    go true = cross n m d e b a c p k.1 h.1

-- an infinity's size is n, and another number's m
inf_inf : (s : Bool) (m n : ℕ) → m ≡ n → lt (inf s) (inf s) ≡ below s m s n
unfolding lt
inf_inf false m n e = sym (le-ltb m n (le_of_eq (sym e)))
inf_inf true m n e = sym (le-ltb n m (le_of_eq e))

inf_finite : (s : Bool) (x : Float) (m n : ℕ) → T (finite x) → m < n → (lt (inf s) x ≡ below s n s m) × (lt x (inf s) ≡ below s m s n)
unfolding lt
inf_finite s nan m n h l = absurd h
inf_finite s (inf t) m n h l = absurd h
inf_finite false (fin t k e) m n h l = (sym (le-ltb n m (le_of_lt l)), sym (lt-ltb m n l))
inf_finite true (fin t k e) m n h l = (sym (lt-ltb m n l), sym (le-ltb n m (le_of_lt l)))

mags_below : (f : Format) (s : Bool) (a b : ℕ) → below s (mag f a) s (mag f b) ≡ below s a s b
mags_below f false a b = mags f a b
mags_below f true a b = mags f b a

-- of one sign the order is the patterns', or the reverse
pub lt_signed : (f : Format) (s : Bool) (a b : ℕ) → leb (top f) a ≡ s → leb (top f) b ≡ s → a % top f ≤ ones f * hid f → b % top f ≤ ones f * hid f
    → lt (of_bits f a) (of_bits f b) ≡ below s (a % top f) s (b % top f)
lt_signed f s a b p q h k = go (eq-or-lt_of_le h) (eq-or-lt_of_le k)
  where
    M : ℕ
    M = ones f * hid f

    go : (a % top f ≡ M) ⊎ (a % top f < M) → (b % top f ≡ M) ⊎ (b % top f < M) → lt (of_bits f a) (of_bits f b) ≡ below s (a % top f) s (b % top f)
    go (inl x) (inl y) = rw (pattern-inf f a x, pattern-inf f b y, p, q) (inf_inf s (a % top f) (b % top f) (x ∙ sym y))
    go (inl x) (inr y) = rw (pattern-inf f a x, p) (inf_finite s (of_bits f b) (b % top f) (a % top f) (bits_finite f b y) (rw x y)).0
    go (inr x) (inl y) = rw (pattern-inf f b y, q) (inf_finite s (of_bits f a) (a % top f) (b % top f) (bits_finite f a x) (rw y x)).1
    go (inr x) (inr y) =
        lt_values s (of_bits f a) (of_bits f b) (mag f (a % top f)) (mag f (b % top f)) (2 ^ low f) (pow_pos (low f)) (rw p at (pattern-value f a x)) (rw q at (pattern-value f b y))
        ∙ mags_below f s (a % top f) (b % top f)

pub lt_bits : (f : Format) (a b : ℕ) → a ≤ ones f * hid f → b ≤ ones f * hid f → lt (of_bits f a) (of_bits f b) ≡ ltb a b
lt_bits f a b h k =
    let u = plain_lt f a h in
    let w = plain_lt f b k in
    let x : a % top f ≡ a = mod-eq_of_lt u in
    let y : b % top f ≡ b = mod-eq_of_lt w in
    rw (x, y) at (lt_signed f false a b (lt-leb (top f) a u) (lt-leb (top f) b w) (rw x h) (rw y k))

-- ---- finite and above 0, by the bits
not_above_lem : (x : Float) → negative x ≡ true → lt plus_zero x ≡ false
unfolding lt
not_above_lem nan h = refl
not_above_lem (inf true) h = refl
not_above_lem (inf false) h = absurd (false≢true h)
not_above_lem (fin true m e) h = refl
not_above_lem (fin false m e) h = absurd (false≢true h)

zero_bits : plus_zero ≡ of_bits binary64 0
unfolding of_bits
zero_bits = refl

pub above_bits : (b : ℕ) → (ltb 0 b && ltb b 9218868437227405312) ≡ (finite (of_bits binary64 b) && lt plus_zero (of_bits binary64 b))
above_bits b = go (dec_lt b 9218868437227405312)
  where
    go : Dec (b < 9218868437227405312) → (ltb 0 b && ltb b 9218868437227405312) ≡ (finite (of_bits binary64 b) && lt plus_zero (of_bits binary64 b))
    go (yes h) =
        let e : b % top binary64 ≡ b = omega arith in
        let n = is_true (finite (of_bits binary64 b)) (bits_finite binary64 b (rw e h)) in
        let a = ap (λ (z : Float). lt z (of_bits binary64 b)) zero_bits ∙ lt_bits binary64 0 b (omega arith) (omega arith) in
        rw (n, a, lt-ltb b 9218868437227405312 h) (and-true (ltb 0 b))
    go (no h) = rw (le-ltb b 9218868437227405312 (omega arith), and-false (ltb 0 b)) (sym (by (finite (of_bits binary64 b)) above (λ e. rw e)))
      where
        above : finite (of_bits binary64 b) ≡ true → (finite (of_bits binary64 b) && lt plus_zero (of_bits binary64 b)) ≡ false
        above e =
            let s = small-bits binary64 b (rw e tt) in
            let t : top binary64 ≤ b = omega arith in
            rw (e, not_above_lem (of_bits binary64 b) (sign_bits binary64 b (omega arith) ∙ le-leb (top binary64) b t))

zero_not_above : lt plus_zero plus_zero ≡ false
unfolding lt
zero_not_above = refl

-- of a value above 0, whose bits are not 0
pub finite_above : (x : Float) → T (fits binary64 x) → lt plus_zero x ≡ true → ltb (to_bits binary64 x) 9218868437227405312 ≡ (finite x && lt plus_zero x)
finite_above x f h =
    let b = to_bits binary64 x in
    let e : of_bits binary64 b ≡ x = of_bits-to_bits binary64 x f in
    let some : ltb 0 b ≡ true = by (ltb 0 b) (λ t. t) (λ t. absurd (true≢false (sym h ∙ ap (lt plus_zero) (sym e ∙ ap (of_bits binary64) (none b t) ∙ sym zero_bits) ∙ zero_not_above))) in
    let k = above_bits b in
    rw (some, e) at k
  where
    none : (b : ℕ) → ltb 0 b ≡ false → b ≡ 0
    none b t = let h = ltb-false 0 b t in omega (arith, h)

-- ---- without its sign
pub abs_odd : (d : ℕ) (s : Bool) (q k l : ℕ) → abs (odd d s q k l) ≡ odd d false q k l
unfolding odd
abs_odd d s zero k l = refl
abs_odd d s (suc q) k l = refl

abs_fields : (f : Format) (s : Bool) (x t : ℕ) → abs (of_fields f s x t) ≡ of_fields f false x t
unfolding of_fields
abs_fields f s zero t = abs_odd (prec f) s t 0 (low f)
abs_fields f s (suc x) t =
    by (eqb (suc x) (ones f)) (λ e. rw e (special (eqb t 0))) (λ e. rw e (abs_odd (prec f) s (hid f + t) x (low f)))
  where
    special : (b : Bool) → abs (cond b (inf s) nan) ≡ cond b (inf false) nan
    special true = refl
    special false = refl

pub abs-bits : (f : Format) (b : ℕ) → abs (of_bits f b) ≡ of_bits f (b % top f)
unfolding of_bits
abs-bits f b =
    rw (abs_fields f (leb (top f) b) (b % top f / hid f) (b % hid f), lt-leb (top f) (b % top f) (mod-lt b (mul-pos (hid_pos f) (zero-lt-suc (ones f)))), mod-mod b (top f), digits_same f b)

-- ---- a value that fits is known by its sign and its size
abbrev pattern : Format → Bool → ℕ → ℕ
pattern f s n = let k = size n - prec f in cond s (top f) 0 + k * hid f + n / 2 ^ k

of_value : (f : Format) (s : Bool) (x : Float) (a : ℕ) → HasValue x s a (2 ^ low f) → to_bits f x ≡ pattern f s a
unfolding to_bits
of_value f s nan a h = absurd h
of_value f s (inf t) a h = absurd h
of_value f s (fin t m e) a h =
    ap (pattern f t) (ap (λ (n : ℕ). n / down e) h.1 ∙ mul-div_cancel a (down_pos e)) ∙ ap (λ (b : Bool). pattern f b a) h.0

pub same-value : (f : Format) (s : Bool) (x y : Float) (a : ℕ) → T (fits f x) → T (fits f y) → HasValue x s a (2 ^ low f) → HasValue y s a (2 ^ low f) → x ≡ y
same-value f s x y a t u h k = sym (of_bits-to_bits f x t) ∙ ap (of_bits f) (of_value f s x a h ∙ sym (of_value f s y a k)) ∙ of_bits-to_bits f y u

-- the fraction may be written wider
pub wider : (x : Float) (s : Bool) (a c p : ℕ) → HasValue x s a c → HasValue x s (a * p) (c * p)
wider nan s a c p h = h
wider (inf t) s a c p h = h
wider (fin t m e) s a c p h =
    (h.0, sym (mul_assoc (m * up e) c p) ∙ ap (λ (n : ℕ). n * p) h.1 ∙ mul_right_comm a (down e) p)
