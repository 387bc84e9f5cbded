-- The head test of a search: its comparison is equality, and against an accepted head it is document 01's sentence on 21.
use mathlib.Core.Path.{◌≡◌, refl, sym, ap, ◌∙◌}
use mathlib.Core.Bool.{true}
use mathlib.Core.Logic.{◌↔◌}
use mathlib.Core.List.{List, [], ◌∷◌}
use Prim.Native.Nat.{ℕ, zero, suc, ◌+◌, ◌-◌, ◌≤◌, ◌<◌}
use native.Mathlib.Omega.{arith}
use lib.Dec.{eqb}
use borrow.Author.Tests.{eq-eqb, eqb-true, leb-true, le-leb}
use lib.ListN.{length, get_or, take, drop, replicate, length-drop, take-append-drop}
use lib.Seq.{take-add, take-suc, take_at, length-take-le, get_or-take}
use Rattle.le.specs.Le.{le, le_at, bytes}
use Rattle.le.proofs.LeLaws.{AllBytes, bytes_le, take_bytes, drop_bytes}
use Rattle.le.proofs.Pastes.{part-before}
use Rattle.config.specs.Limits.{max_manifest_bytes, max_segment_bytes}
use Rattle.config.specs.Metric.{metric_of, is_metric, byte_of}
use Rattle.config.proofs.Metrics.{metric-bytes}
use Rattle.config.specs.declared.Config.{Config}
use Rattle.config.specs.declared.Metric.{Metric}
use Rattle.config.specs.declared.Metric.TheVariants.{SquaredL2, Cosine, InnerProduct}
use Rattle.utf8.specs.Grammar.{span}
use Rattle.format.specs.Fields.{magic, generation_of, sequence_of, dimensions_of, m_of, ef_of, seed_of, metric_byte, metric_in, metric_at, length_of_model, model_of, segments_of, rows_of, table_at, length_of}
use Rattle.format.specs.Head.{opens_ok, kind_ok, identity_ok, counts_ok, head_number, lengths_ok, head_at, zero_head}
use Rattle.format.specs.Same.{same_bytes, same_config, same_fields, is_same_head}
use Rattle.format.specs.declared.Head.{Head}
use Rattle.format.proofs.First.{each_passes, all_pass}
use Rattle.format.proofs.Heads.{both, headed, in_range, bounds}

-- ---- the comparison is equality

pub bytes_eq : (a b : List ℕ) → same_bytes a b ≡ true → a ≡ b
bytes_eq [] [] h = refl
bytes_eq (x ∷ a) (y ∷ b) h = let p = both {a = eqb x y} h in rw (eqb-true x y p.0, bytes_eq a b p.1)
bytes_eq [] (y ∷ b) h = let z : ◌≡◌ {A = ℕ} 0 1 = cc in absurd (omega arith)
bytes_eq (x ∷ a) [] h = let z : ◌≡◌ {A = ℕ} 0 1 = cc in absurd (omega arith)

pub bytes_refl : (a : List ℕ) → same_bytes a a ≡ true
bytes_refl [] = refl
bytes_refl (x ∷ a) = rw (eq-eqb x x refl, bytes_refl a)

-- a metric and its byte tell each other
metric-back : (a : Metric) → metric_in (metric_of (byte_of a)) ≡ a
unfolding metric_of
metric-back SquaredL2 = refl
metric-back Cosine = refl
metric-back InnerProduct = refl

byte_back : (b : ℕ) → is_metric (metric_of b) ≡ true → byte_of (metric_in (metric_of b)) ≡ b
unfolding metric_of
byte_back zero h = refl
byte_back (suc zero) h = refl
byte_back (suc (suc zero)) h = refl
byte_back (suc (suc (suc b))) h = absurd (omega (arith, leb-true (suc (suc (suc b))) 2 (sym (metric-bytes (suc (suc (suc b)))) ∙ h)))

config_eq : (a b : Config) → same_config a b ≡ true → a ≡ b
unfolding same_config
config_eq a b h =
    let p = both h in
    let q = both p.0 in
    let r = both q.0 in
    let t = both r.0 in
    let byte = eqb-true (byte_of a.metric) (byte_of b.metric) p.1 in
    let metric : a.metric ≡ b.metric = sym (metric-back a.metric) ∙ ap (λ x. metric_in (metric_of x)) byte ∙ metric-back b.metric in
    λ i. record {
      dimensions = eqb-true a.dimensions b.dimensions t.0 i;
      m = eqb-true a.m b.m t.1 i;
      ef_construction = eqb-true a.ef_construction b.ef_construction r.1 i;
      seed = eqb-true a.seed b.seed q.1 i;
      metric = metric i;
    }

pub fields_eq : (a b : Head) → same_fields a b ≡ true → a ≡ b
unfolding same_fields
fields_eq a b h =
    let p = both h in
    let q = both p.0 in
    let r = both q.0 in
    let t = both r.0 in
    let u = both t.0 in
    let v = both u.0 in
    let w = both v.0 in
    λ i. record {
      length = eqb-true a.length b.length w.0 i;
      generation = eqb-true a.generation b.generation w.1 i;
      sequence = eqb-true a.sequence b.sequence v.1 i;
      config = config_eq a.config b.config u.1 i;
      model_length = eqb-true a.model_length b.model_length t.1 i;
      model = bytes_eq a.model b.model r.1 i;
      segments = eqb-true a.segments b.segments q.1 i;
      rows = eqb-true a.rows b.rows p.1 i;
    }

eqb_refl : (n : ℕ) → eqb n n ≡ true
eqb_refl n = eq-eqb n n refl

pub fields_refl : (a : Head) → same_fields a a ≡ true
unfolding same_fields same_config
fields_refl a = simp (eqb_refl, bytes_refl)

-- ---- document 01's sentence

abbrev pub LengthsIn : List ℕ → Type 0
LengthsIn m = (n : ℕ) → n < segments_of m → (4 ≤ length_of m n) × (length_of m n ≤ 67108864)

-- m differs from m₀ neither in its length nor before its segments, and its segment lengths are in their bounds
pub record Unchanged (m m₀ : List ℕ) : Type 0 where
  pub long : length m ≡ length m₀
  pub before : take (table_at m₀) m ≡ take (table_at m₀) m₀
  pub lengths : LengthsIn m

lengths_in : (m : List ℕ) → lengths_ok m ≡ true → LengthsIn m
unfolding lengths_ok
lengths_in m h n l = in_range 4 max_segment_bytes (length_of m n) (each_passes _ (segments_of m) n (eqb-true _ (segments_of m) h) l)

lengths_hold : (m : List ℕ) → LengthsIn m → lengths_ok m ≡ true
unfolding lengths_ok span
lengths_hold m h =
    eq-eqb _ (segments_of m) (all_pass _ (segments_of m) (λ n l. let p = h n l in rw (le-leb 4 (length_of m n) p.0, le-leb (length_of m n) max_segment_bytes p.1)))

-- ---- equal before the segments: the same head

pub inside : (t p n : ℕ) (s : List ℕ) → t ≤ length s → p + n ≤ t → take n (drop p (take t s)) ≡ take n (drop p s)
inside t p n s h k =
    sym (part-before n p (take t s) (drop t s) (rw (length-take-le t s h) k)) ∙ ap (λ (x : List ℕ). take n (drop p x)) (take-append-drop t s)

module _ (m m₀ : List ℕ) (e : head_number m₀ ≡ 0) (u : Unchanged m m₀) where
  ends : table_at m₀ ≤ length m₀
  unfolding table_at
  ends = omega (arith, (bounds m₀ e).end)

  part : (p n : ℕ) → p + n ≤ 61 + length_of_model m₀ → take n (drop p m) ≡ take n (drop p m₀)
  unfolding table_at
  part p n h =
      sym (inside (table_at m₀) p n m (rw u.long ends) h) ∙ ap (λ (x : List ℕ). take n (drop p x)) u.before ∙ inside (table_at m₀) p n m₀ ends h

  number : (p n : ℕ) → p + n ≤ 61 + length_of_model m₀ → le_at n m p ≡ le_at n m₀ p
  number p n h = ap le (part p n h)

  metric-same : metric_byte m ≡ metric_byte m₀
  unfolding metric_byte table_at
  metric-same =
      sym (get_or-take (table_at m₀) m 44 0 (omega arith)) ∙ ap (λ (x : List ℕ). get_or x 44 0) u.before ∙ get_or-take (table_at m₀) m₀ 44 0 (omega arith)

  model_same : length_of_model m ≡ length_of_model m₀
  unfolding length_of_model
  model_same = number 45 4 (omega arith)

  head-same : (head_number m ≡ head_number m₀) × (head_at m ≡ head_at m₀)
  unfolding head_number opens_ok kind_ok identity_ok counts_ok head_at generation_of sequence_of dimensions_of m_of ef_of seed_of metric_at model_of segments_of rows_of
  head-same =
      let n = length_of_model m₀ in
      rw (
        u.long,
        metric-same,
        model_same,
        number 0 8 (omega arith),
        number 8 8 (omega arith),
        number 16 8 (omega arith),
        number 24 4 (omega arith),
        number 28 4 (omega arith),
        number 32 4 (omega arith),
        number 36 8 (omega arith),
        part 49 n (omega arith),
        number (49 + n) 4 (omega arith),
        number (53 + n) 8 (omega arith),
      )
      (refl, refl)

  unchanged-same : is_same_head m (head_at m₀) ≡ true
  unfolding is_same_head
  unchanged-same = rw (head-same.0, e, head-same.1, fields_refl (head_at m₀), lengths_hold m u.lengths)

-- ---- the same head: equal before the segments

model_long : (m : List ℕ) → head_number m ≡ 0 → length (model_of m) ≡ length_of_model m
unfolding model_of
model_long m e = length-take-le (length_of_model m) (drop 49 m) (rw (length-drop 49 m) (omega (arith, (bounds m e).end)))

magic_in : (m : List ℕ) → head_number m ≡ 0 → le_at 8 m 0 ≡ le magic
unfolding opens_ok
magic_in m e = eqb-true (le_at 8 m 0) (le magic) (both {a = span 66 max_manifest_bytes (length m)} (headed m e).opened).1

byte_in : (m : List ℕ) → head_number m ≡ 0 → byte_of (metric_at m) ≡ metric_byte m
unfolding kind_ok metric_at
byte_in m e = byte_back (metric_byte m) (both (headed m e).kind).0

-- a number tells its bytes
pub bytes_in : (n p : ℕ) (s : List ℕ) → AllBytes s → p + n ≤ length s → bytes n (le_at n s p) ≡ take n (drop p s)
bytes_in n p s b h =
    let l : length (take n (drop p s)) ≡ n = length-take-le n (drop p s) (rw (length-drop p s) (omega arith)) in
    rw l at (bytes_le (take n (drop p s)) (take_bytes n (drop p s) (drop_bytes p s b)))

module _ (m m₀ : List ℕ) (b : AllBytes m) (b₀ : AllBytes m₀) (e : head_number m ≡ 0) (e₀ : head_number m₀ ≡ 0) (f : head_at m ≡ head_at m₀) where
  long : length m ≡ length m₀
  unfolding head_at
  long = ap (λ (h : Head). h.length) f

  model_is : length_of_model m ≡ length_of_model m₀
  unfolding head_at
  model_is = ap (λ (h : Head). h.model_length) f

  name_is : model_of m ≡ model_of m₀
  unfolding head_at
  name_is =
      sym (take_at (model_of m) (replicate (512 - length_of_model m) 0) (length_of_model m₀) (model_long m e ∙ model_is))
      ∙ ap (λ (h : Head). take (length_of_model m₀) h.model) f
      ∙ take_at (model_of m₀) (replicate (512 - length_of_model m₀) 0) (length_of_model m₀) (model_long m₀ e₀)

  -- one part more
  more : (p n q : ℕ) → p + n ≡ q → take n (drop p m) ≡ take n (drop p m₀) → take p m ≡ take p m₀ → take q m ≡ take q m₀
  more p n q k part front = rw (← k, take-add p n m, take-add p n m₀, part, front)

  field : (p n q : ℕ) → p + n ≡ q → q ≤ 61 + length_of_model m₀ → le_at n m p ≡ le_at n m₀ p → take p m ≡ take p m₀ → take q m ≡ take q m₀
  field p n q k h part front =
      let l = (bounds m₀ e₀).end in
      more p n q k (sym (bytes_in n p m b (rw long (omega (arith, l)))) ∙ ap (bytes n) part ∙ bytes_in n p m₀ b₀ (omega (arith, l))) front

  to_model : take 49 m ≡ take 49 m₀
  unfolding head_at generation_of sequence_of dimensions_of m_of ef_of seed_of metric_byte length_of_model
  to_model =
      let l = (bounds m₀ e₀).long in
      let byte : metric_byte m ≡ metric_byte m₀ = sym (byte_in m e) ∙ ap (λ (h : Head). byte_of h.config.metric) f ∙ byte_in m₀ e₀ in
      let magic-is = field 0 8 8 refl (omega arith) (magic_in m e ∙ sym (magic_in m₀ e₀)) refl in
      let generation = field 8 8 16 refl (omega arith) (ap (λ (h : Head). h.generation) f) magic-is in
      let sequence = field 16 8 24 refl (omega arith) (ap (λ (h : Head). h.sequence) f) generation in
      let dimensions = field 24 4 28 refl (omega arith) (ap (λ (h : Head). h.config.dimensions) f) sequence in
      let links = field 28 4 32 refl (omega arith) (ap (λ (h : Head). h.config.m) f) dimensions in
      let ef = field 32 4 36 refl (omega arith) (ap (λ (h : Head). h.config.ef_construction) f) links in
      let seed = field 36 8 44 refl (omega arith) (ap (λ (h : Head). h.config.seed) f) ef in
      let metric : take 45 m ≡ take 45 m₀ = rw (take-suc m 44 0 (rw long (omega arith)), take-suc m₀ 44 0 (omega arith), seed, byte) in
      field 45 4 49 refl (omega arith) model_is metric

  prefix : take (table_at m₀) m ≡ take (table_at m₀) m₀
  unfolding head_at table_at model_of segments_of rows_of
  prefix =
      let n = length_of_model m₀ in
      let name = more 49 n (49 + n) refl (rw model_is at name_is) to_model in
      let segments = field (49 + n) 4 (53 + n) (omega arith) (omega arith) (rw model_is at (ap (λ (h : Head). h.segments) f)) name in
      field (53 + n) 8 (61 + n) (omega arith) (omega arith) (rw model_is at (ap (λ (h : Head). h.rows) f)) segments

-- what the head test says of the lent manifest, whatever head was handed in
pub same_parts : (m : List ℕ) (h : Head) → is_same_head m h ≡ true → (head_number m ≡ 0) × (head_at m ≡ h) × (lengths_ok m ≡ true)
unfolding is_same_head
same_parts m h e =
    let p = both {a = eqb (head_number m) 0} e in
    let q = both {a = same_fields (head_at m) h} p.1 in
    (eqb-true (head_number m) 0 p.0, fields_eq (head_at m) h q.0, q.1)

-- the head of a refusal is no manifest's
pub same_none : (m : List ℕ) → is_same_head m zero_head ≡ true → ⊥
unfolding head_at zero_head
same_none m e =
    let p = same_parts m zero_head e in
    let l : length m ≡ 0 = ap (λ (h : Head). h.length) p.1 in
    let b = (bounds m p.0).long in
    omega (arith, l, b)

-- Readings R3: against the head of an accepted manifest m₀ the head test of m is exactly document 01's sentence on 21
pub same-head_law : (m m₀ : List ℕ) (h : Head) → AllBytes m → AllBytes m₀ → head_number m₀ ≡ 0 → h ≡ head_at m₀ → (is_same_head m h ≡ true) ↔ Unchanged m m₀
same-head_law m m₀ h b b₀ e₀ f = (
  λ e. let p = same_parts m h e in
      let g = p.1 ∙ f in
      record { long = long m m₀ b b₀ p.0 e₀ g; before = prefix m m₀ b b₀ p.0 e₀ g; lengths = lengths_in m p.2 },
  λ u. rw f (unchanged-same m m₀ e₀ u),
)
