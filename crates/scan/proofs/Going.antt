-- How far a scan goes at once, whatever the rows are seen by.
use mathlib.Core.Path.{◌≡◌, refl, ◌∙◌}
use mathlib.Core.Bool.{Bool, true, false}
use mathlib.Core.Logic.{⊎_elim}
use mathlib.Core.List.{List}
use Prim.Native.Nat.{ℕ, ◌+◌, ◌≤◌, ◌<◌}
use native.Mathlib.Omega.{arith}
use lib.IntN.{ℤ}
use lib.Ieee.{Float, nan}
use Rattle.std.specs.Prelude.{Some, None}
use Rattle.std.proofs.lemmas.Option.{none-some, same_Some}
use Rattle.rank.proofs.Numbers.{eq_or_ne}
use Rattle.config.specs.declared.Metric.{Metric}
use Rattle.codes.specs.Codes.{RowSums}
use Rattle.codes.specs.declared.Sums.{Sums}
use Rattle.quantization.specs.View.{View, row_test, valid_row}
use Rattle.row.specs.Distance.{distance_of}
use Rattle.row.specs.Answer.{answer, view_of, row_answer}
use Rattle.row.specs.declared.RowAnswer.{RowAnswer}
use Rattle.row.proofs.Views.{tested, as_summed, as_passed}
use Rattle.scan.specs.Far.{Over}
use Rattle.scan.specs.Ahead.{AheadIs, NextIs}
use Rattle.scan.specs.declared.Ahead.{Ahead}
use Rattle.scan.proofs.Far.{entered_same}

-- the answer of an eligible row by its sums
pub said_summed : (levels : ℕ) (metric : Metric) (place : ℕ) (v : View) (qs : Float) (qn : ℤ) (ys : List ℤ) (sums : Sums) {r : RowAnswer}
    → RowSums levels v.codes ys sums
    → r ≡ answer (row_test levels metric v.scale v.norm sums.check.squares sums.check.whole) true place (distance_of metric v.scale v.norm qs qn sums.dot)
    → r ≡ row_answer levels metric true place v (view_of qs qn ys)
said_summed levels metric place v qs qn ys sums S e =
    e
    ∙ as_summed levels metric place v.scale v.norm qs qn v.codes ys (tested levels metric v.scale v.norm v.codes S.checked.squared S.checked.whole) refl refl S.dotted

module _ (levels : ℕ) (metric : Metric) (view : ℕ → View) (query : View) where
  -- the rows from row on have answers over top, up to i
  abbrev pub Gone : (row top i : ℕ) → Type 0
  Gone row top i = (k : ℕ) → row ≤ k → k < i → Over top (row_answer levels metric true k (view k) query)

  pub gone_next : {row top : ℕ} (i : ℕ) → Gone row top i → Over top (row_answer levels metric true i (view i) query) → Gone row top (i + 1)
  gone_next i G o k l h = ⊎_elim (λ (e : k ≡ i). rw e o) (λ n. G k l (omega (arith, n))) (eq_or_ne k i)

  pub ahead_here : {row to top : ℕ} (a : Ahead) → row ≤ a.row → a.row < to → Gone row top a.row → RowSums levels (view a.row).codes query.codes a.sums
      → AheadIs levels metric view query row to top (Some a)
  ahead_here a l h G S = record { from = l; until = omega (arith, h); over = G; here = λ {a = b} e. rw (← same_Some a b e) (h, S) }

  pub ahead-none : {row to top : ℕ} (i : ℕ) → row ≤ to → to ≤ i → Gone row top i → AheadIs levels metric view query row to top None
  ahead-none i l h G = record { from = l; until = omega arith; over = λ k m n. G k m (omega (arith, h)); here = λ {a = b} e. absurd (none-some b e) }

module _ (levels : ℕ) (metric : Metric) (view : ℕ → View) (query : View) {eligible : Bool} {row to top : ℕ} where
  -- a row that may not be turned away
  pub next_here : {a : Ahead} {r : RowAnswer} → eligible ≡ true → AheadIs levels metric view query row to top (Some a)
      → r ≡ row_answer levels metric true a.row (view a.row) query → NextIs levels metric view query eligible row to top (record { row = a.row; answer = r })
  next_here e A s = record {
    from = A.from;
    until = (A.here refl).0;
    wanted = λ l. e;
    over = λ i l k. rw e (A.over i l k);
    said = rw e (entered_same s);
  }

  -- a row that is not eligible
  pub next-passed : {r : RowAnswer} {v : Bool} → eligible ≡ false → row < to → r ≡ answer v false row nan → v ≡ valid_row levels metric (view row)
      → NextIs levels metric view query eligible row to top (record { row = row; answer = r })
  next-passed e h s v = record {
    from = omega arith;
    until = h;
    wanted = λ l. absurd (omega arith);
    over = λ i l k. absurd (omega arith);
    said = rw e (entered_same (s ∙ as_passed levels metric row nan (view row) query v));
  }
