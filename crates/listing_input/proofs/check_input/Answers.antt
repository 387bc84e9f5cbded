use mathlib.Core.Path.{◌≡◌, sym, ◌∙◌}
use mathlib.Core.Bool.{true, false}
use Rattle.std.specs.Prelude.{Option, None, Some, Ok, Err, ok_or, MatchOption, MatchResult}
use Rattle.listing_input.specs.Files.{Files, files_of, all_of, is_too_long, is_bad_input, input_of}
use Rattle.listing_input.specs.declared.InputError.TheVariants.{BadInput}
use Rattle.listing_input.specs.declared.tested.Whole.{Whole}
use Rattle.listing_input.proofs.check_input.Goals as goal

answered : (f : Files) (r : Option Whole) → is_too_long f ≡ false → MatchOption r (is_bad_input f ≡ true) (λ w. (is_bad_input f ≡ false) × (f ≡ all_of w))
    → MatchResult (ok_or r BadInput) (λ w. (input_of f ≡ Ok tt) × (f ≡ all_of w)) (λ e. input_of f ≡ Err e)
unfolding input_of
answered f None t h = rw (t, h)
answered f (Some w) t h = (rw (t, h.0), h.1)

pub returns-then-too_long : goal.returns-then-too_long
unfolding input_of
returns-then-too_long c = rw (← c.too_long.ensures, c.if-too_long.true)

pub unspoilt-requires : goal.unspoilt-requires
unspoilt-requires c = sym c.too_long.ensures ∙ c.if-too_long.false

pub returns : goal.returns
returns c = rw c.ok_or.ensures.value (answered (files_of c.args.files.now) c.unspoilt.result (sym c.too_long.ensures ∙ c.if-too_long.false) c.unspoilt.ensures)
