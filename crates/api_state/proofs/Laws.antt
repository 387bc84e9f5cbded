-- A state is written as its bytes, and read back; bytes of another origin.
use mathlib.Core.Path.{◌≡◌, refl, sym, ap, ◌∙◌}
use mathlib.Core.Bool.{true, false}
use mathlib.Core.List.{List, [], ◌∷◌, ◌++◌, append-nil}
use Prim.Native.Nat.{ℕ, ◌+◌, ◌*◌, ◌<◌}
use native.Mathlib.Omega.{arith}
use borrow.Author.Tests.{ne_eqb, eqb-true, lt-leb}
use lib.Dec.{leb, eqb}
use lib.ListN.{length, get_or, take, drop, replicate, length-append}
use lib.Seq.{drop-length, drop_at, take-length}
use Rattle.le.specs.Le.{le_at, bytes, paste}
use Rattle.le.proofs.Pastes.{paste-two, paste-next}
use Rattle.le.proofs.Chain.{by}
use Rattle.config.specs.Metric.{metric_of, byte_of}
use Rattle.config.specs.declared.Metric.{Metric}
use Rattle.config.specs.declared.Metric.TheVariants.{SquaredL2, Cosine, InnerProduct}
use Rattle.format.specs.Fields.{metric_in}
use Rattle.format.specs.Head.{head_number, head_at as accepted, zero_head}
use Rattle.format.specs.Same.{is_same_head, same_fields}
use Rattle.format.specs.declared.Head.{Head}
use Rattle.format.proofs.Heads.{bounds}
use Rattle.quantized_cache.specs.declared.CacheState.{CacheState}
use Rattle.quantized_cache.specs.Open as O
use Rattle.resident.specs.declared.ResidentState.{ResidentState}
use Rattle.resident.specs.Build as D
use Rattle.api_state.specs.Bytes.{words, head_numbers, state_bytes, head_at, head_bytes, head_in, bytes_of_cache, cache_in, resident_bytes, resident_in}
use Rattle.api_state.specs.Fits.{StateFits}
use Rattle.api_state.proofs.Words.{length_words, words_append, word_at}

-- ---- writing

pub length_head : (h : Head) → length (words (head_numbers h)) ≡ 88
unfolding head_numbers
length_head h = length_words (head_numbers h)

-- three parts that fill what is lent
pub filled : (d : List ℕ) (h : Head) (own : List ℕ) (at : ℕ) → at ≡ 88 + 8 * length own → length d ≡ at + length h.model
    → paste (paste (paste d 0 (words (head_numbers h))) 88 (words own)) at h.model ≡ state_bytes h own
unfolding state_bytes
filled d h own at e k =
    let a = words (head_numbers h) in
    let b = words own in
    let la : length a ≡ 88 = length_head h in
    let lb : length b ≡ 8 * length own = length_words own in
    let l : length (a ++ b) ≡ at = simp (length-append, la, lb) (omega arith) in
    ap (λ (x : List ℕ). paste x at h.model) (paste-next d 0 a b 88 (omega arith) (omega arith)) ∙ paste-two d (a ++ b) h.model at l ∙ rw (← k, drop-length d, words_append (head_numbers h) own) (append-nil ((a ++ b) ++ h.model))

-- ---- reading

low-metric : (k : Metric) → leb (byte_of k) 2 ≡ true
low-metric SquaredL2 = refl
low-metric Cosine = refl
low-metric InnerProduct = refl

metric-back : (k : Metric) → metric_in (metric_of (byte_of k)) ≡ k
unfolding metric_of
metric-back SquaredL2 = refl
metric-back Cosine = refl
metric-back InnerProduct = refl

fields_back : (b : List ℕ) (at : ℕ) (h : Head) → le_at 8 b 0 ≡ h.length → le_at 8 b 8 ≡ h.generation → le_at 8 b 16 ≡ h.sequence
    → le_at 8 b 24 ≡ h.config.dimensions → le_at 8 b 32 ≡ h.config.m → le_at 8 b 40 ≡ h.config.ef_construction → le_at 8 b 48 ≡ h.config.seed
    → le_at 8 b 56 ≡ byte_of h.config.metric → le_at 8 b 64 ≡ h.model_length → le_at 8 b 72 ≡ h.segments → le_at 8 b 80 ≡ h.rows
    → take 512 (drop at b) ≡ h.model → head_at b at ≡ h
unfolding head_at
fields_back b at h p0 p1 p2 p3 p4 p5 p6 p7 p8 p9 p10 q =
    rw (p0, p1, p2, p3, p4, p5, p6, p7, p8, p9, p10, q, low-metric h.config.metric, metric-back h.config.metric)

fields_kept : (h : Head) (own : List ℕ) (at : ℕ) → 88 + 8 * length own ≡ at → StateFits h own → head_at (state_bytes h own) at ≡ h
unfolding head_numbers state_bytes
fields_kept h own at e f =
    let v = head_numbers h ++ own in
    let w : (i : ℕ) → i < length v → le_at 8 (words v ++ h.model) (8 * i) ≡ get_or v i 0 = λ i k. word_at v h.model i k f.0 in
    let l : length (words v) ≡ at = length_words v ∙ omega arith in
    fields_back (words v ++ h.model) at h (w 0 (omega arith)) (w 1 (omega arith)) (w 2 (omega arith)) (w 3 (omega arith)) (w 4 (omega arith)) (w 5 (omega arith)) (w 6 (omega arith)) (w 7 (omega arith)) (w 8 (omega arith)) (w 9 (omega arith)) (w 10 (omega arith))
    (ap (λ (l : List ℕ). take 512 l) (drop_at (words v) h.model at l) ∙ ap (λ (n : ℕ). take n h.model) (sym f.1) ∙ take-length h.model)

pub head-back : (h : Head) → StateFits h [] → head_in (head_bytes h) ≡ h
unfolding head_in
head-back h f = fields_kept h [] 88 refl f

pub cache-back : (s : CacheState) → StateFits s.head (s.cache ∷ []) → cache_in (bytes_of_cache s) ≡ s
unfolding cache_in state_bytes head_numbers
cache-back s f =
    let own = s.cache ∷ [] in
    rw (fields_kept s.head own 96 refl f, word_at (head_numbers s.head ++ own) s.head.model 11 (omega arith) f.0)

pub resident-back : (s : ResidentState) → StateFits s.head (s.codes ∷ s.scales ∷ s.norms ∷ []) → resident_in (resident_bytes s) ≡ s
unfolding resident_in state_bytes head_numbers
resident-back s f =
    let own = s.codes ∷ s.scales ∷ s.norms ∷ [] in
    let v = head_numbers s.head ++ own in
    rw (fields_kept s.head own 112 refl f, word_at v s.head.model 11 (omega arith) f.0, word_at v s.head.model 12 (omega arith) f.0, word_at v s.head.model 13 (omega arith) f.0)

-- ---- a refusal's state is zeros; and zeros, or a metric over 2, are no manifest's

pub zero_head_lem : head_bytes zero_head ≡ replicate 600 0
unfolding state_bytes head_numbers words bytes zero_head
zero_head_lem = refl

pub zero_cache : bytes_of_cache O.zero_cache_state ≡ replicate 608 0
unfolding state_bytes head_numbers words bytes zero_head
zero_cache = refl

pub zero_resident : resident_bytes D.zero_resident_state ≡ replicate 624 0
unfolding state_bytes head_numbers words bytes zero_head
zero_resident = refl

no_length : (m : List ℕ) → head_number m ≡ 0 → same_fields (accepted m) zero_head ≡ false
unfolding same_fields accepted zero_head
no_length m h = rw (ne_eqb (length m) 0 (λ e. omega (arith, (bounds m h).long, e)))

pub no_manifest : (m : List ℕ) → is_same_head m zero_head ≡ false
unfolding is_same_head
no_manifest m = by (eqb (head_number m) 0) (λ t. rw (t, no_length m (eqb-true (head_number m) 0 t))) (λ f. rw f)

pub no_metric : (b : List ℕ) (at : ℕ) → 2 < le_at 8 b 56 → (m : List ℕ) → is_same_head m (head_at b at) ≡ false
unfolding head_at
no_metric b at h m = rw (lt-leb (le_at 8 b 56) 2 h) (no_manifest m)
