-- A refusal (document 01, What each place turns away: "A refusal returns its number and a place"); number 0, place 0 is none.
use Rattle.std.specs.Prelude.{cond, ℕ, eqb}

pub record Refusal : Type 0 where
  pub number : ℕ
  pub place : ℕ

abbrev pub none : Refusal
none = record { number = 0; place = 0 }

abbrev pub refused : ℕ → ℕ → Refusal
refused n p = record { number = n; place = p }

-- tests in their order: a refusal, or where it is none what the rest says
abbrev pub then_refusal : Refusal → Refusal → Refusal
then_refusal first rest = cond (eqb first.number 0) rest first

-- the number of the tests before, at 0, or where it is 0 what the rest says
abbrev pub refused_or : ℕ → Refusal → Refusal
refused_or number rest = then_refusal (refused number 0) rest

-- a number at the first of n that fails, `bad`, or where none does what the rest says
abbrev pub refused_at : ℕ → ℕ → ℕ → Refusal → Refusal
refused_at number bad n rest = cond (eqb bad n) rest (refused number bad)

-- what is answered, or stands in a lent slice: the first where nothing is refused, else the second ("All counts are then 0. Answer slices,
-- resident slices and the cache are untouched")
abbrev pub unless_refused : {A : Type 0} → Refusal → A → A → A
unless_refused refusal done other = cond (eqb refusal.number 0) done other
