-- A row that is turned away has an answer that changes nothing.
use mathlib.Core.Path.{◌≡◌, refl, sym, ◌∙◌}
use mathlib.Core.Logic.{inl}
use mathlib.Core.Bool.{Bool, true, false, ◌&&◌, and-eq-true_iff, false≢true}
use mathlib.Core.List.{List}
use Prim.Native.Nat.{ℕ, ◌^◌, ◌≤◌, ◌<◌}
use native.Mathlib.Omega.{arith}
use lib.Dec.{T}
use lib.IntN.{ℤ, pos, negsuc, nat_abs}
use mir.Syntax.{w32}
use mir.Val.{SFits}
use lib.Ieee.{Float, binary64, of_int, of_bits, lt}
use lib.Ieee.Scale.{finite}
use Rattle.float.specs.Order.{bits_of}
use Rattle.float.proofs.Keys.{key-over}
use Rattle.root.specs.SquareRoot.{sqrt_of}
use Rattle.config.specs.Metric.{is_cosine}
use Rattle.config.specs.declared.Metric.{Metric}
use Rattle.config.specs.declared.Metric.TheVariants.{SquaredL2, Cosine, InnerProduct}
use Rattle.codes.specs.Codes.{RowSums}
use Rattle.codes.specs.declared.Sums.{Sums}
use Rattle.quantization.specs.View.{View}
use Rattle.quantization.specs.declared.Row.{Row}
use Rattle.row.specs.Distance.{distance_of, approximate}
use Rattle.row.specs.Read.{scale_test, sums_test}
use Rattle.row.specs.Over.{is_over}
use Rattle.row.specs.Answer.{answer, view_of, row_answer}
use Rattle.row.specs.declared.RowAnswer.{RowAnswer}
use Rattle.row.proofs.Distances.{finite as said}
use Rattle.row.proofs.Finite.{distance-fits}
use Rattle.row.proofs.Views.{Is, summed, parts, tested}
use Rattle.cosine.specs.Far.{is_far, Far}
use Rattle.scan.specs.Far.{Over, TurnedAway, Entered}

true_of : (b : Bool) → T b → b ≡ true
true_of true h = refl
true_of false h = absurd h

pub word_small : (z : ℤ) → SFits w32 z → nat_abs z ≤ 2 ^ 31
word_small (pos n) f = omega (arith, f.sfits)
word_small (negsuc n) f = omega (arith, f.sfits)

-- ---- a row's test by its sums
module _ (s : Float) (n : ℤ) (w : ℕ) (b : Bool) (qs : Float) (qn d : ℤ) (bound : Float) (t : ℕ) where
  -- under cosine, by the limit
  pub turned_far : {r : Bool} (metric : Metric) → w < 2 ^ 32 → nat_abs d ≤ 2 ^ 31 → is_cosine metric ≡ true → sums_test metric n w b ≡ true → r ≡ is_far w d t
      → TurnedAway qn bound t (sums_test metric n w b) (distance_of metric s n qs qn d) r
  unfolding distance_of
  turned_far SquaredL2 fit small c v e = absurd (false≢true c)
  turned_far Cosine fit small c v e = record {
    turns = λ h top l q F f.
        let S = summed Cosine n w b v in
        let T = F.turns w d (S.some refl) fit small (sym e ∙ h) in
        (v, rw S.norm T.0, rw S.norm T.1);
  }
  turned_far InnerProduct fit small c v e = absurd (false≢true c)

  -- else by the distance
  over_parts : (metric : Metric) (x : Float) → is_over metric bound x ≡ true → (lt bound x ≡ true) × (finite x ≡ true)
  unfolding is_over
  over_parts SquaredL2 x h = (and-eq-true_iff (lt bound x) (finite x)).0 h
  over_parts Cosine x h = absurd (false≢true h)
  over_parts InnerProduct x h = (and-eq-true_iff (lt bound x) (finite x)).0 h

  pub turned_over : {r : Bool} (metric : Metric) → sums_test metric n w b ≡ true → r ≡ is_over metric bound (distance_of metric s n qs qn d)
      → TurnedAway qn bound t (sums_test metric n w b) (distance_of metric s n qs qn d) r
  turned_over metric v e = record {
    turns = λ h top l q F f.
        let x = distance_of metric s n qs qn d in
        let p = over_parts metric x (sym e ∙ h) in
        (v, rw p.1 tt, key-over top x l f (rw q at p.0));
  }

-- of a row that is read, with the scale's test before it
pub turned_read : {norm : ℤ} {bound : Float} {t : ℕ} {r : Bool} (metric : Metric) (w : ℕ) (b : Bool) (s : Float) (n : ℤ) (qs : Float) (d : ℤ) {row : Row} → Is s n row
    → TurnedAway norm bound t (sums_test metric row.norm w b) (distance_of metric row.scale row.norm qs norm d) r
    → TurnedAway norm bound t (scale_test s && sums_test metric n w b) (distance_of metric s n qs norm d) r
turned_read metric w b s n qs d I R = rw I.test (rw (I.scale, I.norm) at R)

-- ---- and so has an answer over every key that is kept
pub over-row : (levels : ℕ) (metric : Metric) (place : ℕ) (v : View) (qs : Float) (qn : ℤ) (ys : List ℤ) (sums : Sums) {bound : Float} {top t : ℕ} {r : Bool}
    → RowSums levels v.codes ys sums
    → TurnedAway qn bound t (scale_test v.scale && sums_test metric v.norm sums.check.squares sums.check.whole) (distance_of metric v.scale v.norm qs qn sums.dot) r
    → r ≡ true → top < 2 ^ 64 → bound ≡ of_bits binary64 (bits_of top) → Far (sqrt_of (of_int binary64 qn)) top t
    → Over top (row_answer levels metric true place v (view_of qs qn ys))
unfolding row_answer answer approximate
over-row levels metric place v qs qn ys sums {top = top} S R h l q F =
    let x = approximate metric v (view_of qs qn ys) in
    let e = sym (tested levels metric v.scale v.norm v.codes S.checked.squared S.checked.whole) ∙ parts levels metric v.scale v.norm sums.check.squares sums.check.whole in
    let p = rw S.dotted at (R.turns h top l q F (rw S.dotted (distance-fits metric v (view_of qs qn ys)))) in
    record { distance = x; is = rw (e, p.0) (sym (said place x (true_of (finite x) p.1))); over = p.2 }

pub entered_same : {top : ℕ} {a r : RowAnswer} → r ≡ a → Entered top a r
entered_same h = record { measured = λ e. sym h ∙ e; refused = λ e. sym h ∙ e; passed = λ e. inl (sym h ∙ e) }
