-- Numbers in 8 bytes each, one after the other.
use mathlib.Core.Path.{◌≡◌, refl, sym, ap, ◌∙◌}
use mathlib.Core.List.{List, [], ◌∷◌, ◌++◌, append-nil, append_assoc}
use Prim.Native.Nat.{ℕ, zero, suc, ◌+◌, ◌*◌, ◌≤◌, ◌<◌}
use native.Mathlib.Omega.{arith}
use lib.ListN.{length, get_or, take, length-append}
use lib.Seq.{take_at, drop-append-add, take-suc, length-take-le}
use Rattle.le.specs.Le.{le, le_at, bytes, paste}
use Rattle.le.proofs.LeLaws.{length_bytes, le-bytes-all}
use Rattle.le.proofs.Pastes.{paste-next}
use Rattle.api_state.specs.Bytes.{words}
use Rattle.api_state.specs.Fits.{Fit}

pub length_words : (v : List ℕ) → length (words v) ≡ 8 * length v
unfolding words
length_words [] = refl
length_words (x ∷ v) = rw (length-append (bytes 8 x) (words v), length_bytes 8 x, length_words v) (omega arith)

pub words_append : (u v : List ℕ) → words (u ++ v) ≡ words u ++ words v
unfolding words
words_append [] v = refl
words_append (x ∷ u) v = ap (λ (l : List ℕ). bytes 8 x ++ l) (words_append u v) ∙ sym (append_assoc (bytes 8 x) (words u) (words v))

pub fit_append : (u v : List ℕ) → Fit u → Fit v → Fit (u ++ v)
fit_append [] v f g = g
fit_append (x ∷ u) v f g = (f.0, fit_append u v f.1 g)

words-one : (x : ℕ) → words (x ∷ []) ≡ bytes 8 x
unfolding words
words-one x = append-nil (bytes 8 x)

-- one turn of writing
pub words_turn : (d v : List ℕ) (at i : ℕ) → i < length v → at + 8 * length v ≤ length d
    → paste (paste d at (words (take i v))) (at + 8 * i) (bytes 8 (get_or v i 0)) ≡ paste d at (words (take (suc i) v))
words_turn d v at i h k =
    let l : i ≤ length v = omega arith in
    let e : length (words (take i v)) ≡ 8 * i = length_words (take i v) ∙ ap (λ (n : ℕ). 8 * n) (length-take-le i v l) in
    rw (take-suc v i 0 h, words_append (take i v) (get_or v i 0 ∷ []), words-one (get_or v i 0)) (paste-next d at (words (take i v)) (bytes 8 (get_or v i 0)) (at + 8 * i) (omega arith) (omega arith))

-- ---- reading

-- what a slice tells of its numbers
pub all_fit : (v : List ℕ) → ((k : ℕ) → get_or v k 0 < 18446744073709551616) → Fit v
all_fit [] h = tt
all_fit (x ∷ v) h = (h 0, all_fit v (λ k. h (suc k)))

-- number i of numbers that fit, whatever stands behind them
pub word_at : (v rest : List ℕ) (i : ℕ) → i < length v → Fit v → le_at 8 (words v ++ rest) (8 * i) ≡ get_or v i 0
unfolding words
word_at [] rest i h f = absurd (omega (arith, h))
word_at (x ∷ v) rest zero h f =
    ap (λ (l : List ℕ). le (take 8 l)) (append_assoc (bytes 8 x) (words v) rest) ∙ ap le (take_at (bytes 8 x) (words v ++ rest) 8 (length_bytes 8 x)) ∙ le-bytes-all 8 x f.0
word_at (x ∷ v) rest (suc i) h f =
    let e : 8 * suc i ≡ length (bytes 8 x) + 8 * i = rw (length_bytes 8 x) (omega arith) in
    ap (λ (l : List ℕ). le_at 8 l (8 * suc i)) (append_assoc (bytes 8 x) (words v) rest)
    ∙ ap (λ (n : ℕ). le_at 8 (bytes 8 x ++ (words v ++ rest)) n) e
    ∙ ap (λ (l : List ℕ). le (take 8 l)) (drop-append-add (bytes 8 x) (words v ++ rest) (8 * i))
    ∙ word_at v rest i (omega (arith, h)) f.1
