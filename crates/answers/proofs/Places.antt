-- The answer slices as a loop over the listed rows fills them.
use mathlib.Core.Path.{◌≡◌, refl, sym, ap, ◌∙◌}
use mathlib.Core.List.{List, [], ◌∷◌, ◌++◌, map}
use Prim.Native.Nat.{ℕ, zero, suc, ◌+◌, ◌≤◌, ◌<◌}
use native.Mathlib.Omega.{arith}
use lib.Ieee.{Float, nan}
use lib.ListN.{length, get_or, set, take, drop, length-set, length-map}
use lib.Seq.{take-length}
use Rattle.le.specs.Le.{paste}
use Rattle.le.proofs.Pastes.{copy_turn, paste-first}
use Rattle.search_spec.specs.declared.Place.{Place}
use Rattle.search_spec.specs.Lent.{Answers, answers_of}
use Rattle.search_spec.specs.Outcome.{filled}
use Rattle.answers.specs.Places.{place_by, places_by}

length_places : (m ks rs : List ℕ) → length ks ≡ length rs → length (places_by m ks rs) ≡ length rs
unfolding places_by
length_places m [] [] h = refl
length_places m (k ∷ ks) (r ∷ rs) h = let e : length ks ≡ length rs = omega arith in ap suc (length_places m ks rs e)
length_places m [] (r ∷ rs) h = absurd (omega arith)
length_places m (k ∷ ks) [] h = absurd (omega arith)

-- the first i of the places are stored in the slice x, which was o
pub record Stored {B : Type 0} (f : Place → B) (ps : List Place) (o : List B) (i : ℕ) (x : List B) : Type 0 where
  pub size : length x ≡ length o
  pub so : x ≡ take i (map f ps) ++ drop i o

module _ {B : Type 0} (f : Place → B) where
  places-at : (m ks rs : List ℕ) (i : ℕ) (d : B) → length ks ≡ length rs → i < length rs → get_or (map f (places_by m ks rs)) i d ≡ f (place_by m (get_or ks i 0) (get_or rs i 0))
  unfolding places_by
  places-at m [] [] i d e h = absurd (omega arith)
  places-at m (k ∷ ks) (r ∷ rs) zero d e h = refl
  places-at m (k ∷ ks) (r ∷ rs) (suc i) d e h = places-at m ks rs i d (omega arith) (omega arith)
  places-at m [] (r ∷ rs) i d e h = absurd (omega arith)
  places-at m (k ∷ ks) [] i d e h = absurd (omega arith)

  stored_turn : (m ks rs : List ℕ) {o x : List B} {i : ℕ} {p : Place} (d : B) → length ks ≡ length rs → i < length rs → length rs ≤ length o → p ≡ place_by m (get_or ks i 0) (get_or rs i 0)
      → Stored f (places_by m ks rs) o i x → Stored f (places_by m ks rs) o (i + 1) (set x i (f p))
  stored_turn m ks rs {o} {x} {i} {p} d e h l q s =
      let ps = places_by m ks rs in
      let n = length-map ps f ∙ length_places m ks rs e in
      record {
        size = length-set x i (f p) ∙ s.size;
        so = ap (λ y. set y i (f p)) s.so ∙ copy_turn (map f ps) o i d (omega (arith, n, h)) (omega (arith, h, l)) (ap f q ∙ sym (places-at m ks rs i d e h));
      }

module _ {B : Type 0} {f : Place → B} {ps : List Place} {o x : List B} {i : ℕ} where
  stored_end : i ≡ length ps → Stored f ps o i x → x ≡ paste o 0 (map f ps)
  stored_end e s = let n : i ≡ length (map f ps) = e ∙ sym (length-map ps f) in s.so ∙ rw (n, take-length (map f ps)) (sym (paste-first o (map f ps)))

pub answers-same : {a a' : List ℕ} {b b' : List Float} {c c' d d' e e' : List ℕ} → a ≡ a' → b ≡ b' → c ≡ c' → d ≡ d' → e ≡ e' → answers_of a b c d e ≡ answers_of a' b' c' d' e'
answers-same p q r s t = cc

-- each answer slice holds n places
abbrev pub RoomFor : ℕ → Answers → Type 0
RoomFor n a = (n ≤ length a.ids) × (n ≤ length a.distances) × (n ≤ length a.rows) × (n ≤ length a.starts) × (n ≤ length a.lengths)

-- the first i of the places are stored in the answer slices, which were o
pub record Written (ps : List Place) (o : Answers) (i : ℕ) (a : Answers) : Type 0 where
  pub ids : Stored (λ p. p.id) ps o.ids i a.ids
  pub distances : Stored (λ p. p.distance) ps o.distances i a.distances
  pub rows : Stored (λ p. p.row) ps o.rows i a.rows
  pub starts : Stored (λ p. p.start) ps o.starts i a.starts
  pub lengths : Stored (λ p. p.length) ps o.lengths i a.lengths

module _ (m ks rs : List ℕ) (e : length ks ≡ length rs) {o a : Answers} {i : ℕ} (l : RoomFor (length rs) o) (w : Written (places_by m ks rs) o i a) where
  pub written_turn : {p : Place} → i < length rs → p ≡ place_by m (get_or ks i 0) (get_or rs i 0)
      → Written (places_by m ks rs) o (i + 1) (answers_of (set a.ids i p.id) (set a.distances i p.distance) (set a.rows i p.row) (set a.starts i p.start) (set a.lengths i p.length))
  written_turn h q = record {
    ids = stored_turn (λ p. p.id) m ks rs 0 e h l.0 q w.ids;
    distances = stored_turn (λ p. p.distance) m ks rs nan e h l.1 q w.distances;
    rows = stored_turn (λ p. p.row) m ks rs 0 e h l.2 q w.rows;
    starts = stored_turn (λ p. p.start) m ks rs 0 e h l.3 q w.starts;
    lengths = stored_turn (λ p. p.length) m ks rs 0 e h l.4 q w.lengths;
  }

  pub written_end : i ≡ length rs → a ≡ filled (places_by m ks rs) o
  unfolding filled
  written_end d =
      let k = d ∙ sym (length_places m ks rs e) in
      answers-same (stored_end k w.ids) (stored_end k w.distances) (stored_end k w.rows) (stored_end k w.starts) (stored_end k w.lengths)
