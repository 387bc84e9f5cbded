use mathlib.Core.Path.{◌≡◌, sym, ◌∙◌}
use native.Mathlib.Omega.{arith}
use Prim.Native.Nat.{ℕ}
use borrow.Author.Tests.{eq-eqb, ne_eqb}
use Rattle.std.proofs.lemmas.Result.{err_from_is_err_and}
use Rattle.config.proofs.Numbers.{some_number}
use Rattle.cache_format.specs.Sizing.{bounds_number, sizing_number}
use Rattle.cache_format.specs.declared.Options.{Options}
use Rattle.cache_format.proofs.Sizes.{Bounded, bounds_in, rows_in}
use Rattle.cache_format.proofs.check_sizing_by_lengths.Goals as goal

-- 10 and 7 are passed
abbrev Kept : ℕ → ℕ → Options → ℕ → Type 0
Kept platform root o row = Bounded platform root o.max_cache_bytes o.buffer_bytes row

kept : (platform root : ℕ) (o : Options) {row : ℕ} → 0 ≡ bounds_number platform root o.max_cache_bytes o.buffer_bytes row → Kept platform root o row
kept platform root o {row} h = bounds_in platform root o.max_cache_bytes o.buffer_bytes row (sym h)

pub returns-in_err-check_bounds : goal.returns-in_err-check_bounds
unfolding sizing_number
returns-in_err-check_bounds c =
    let p = err_from_is_err_and c.from_residual.result c.from_residual.ensures.1 in
    let e = rw c.row_length.ensures at c.in_err-check_bounds.ensures in
    rw (p.1, p.2, e, ne_eqb _ 0 (rw e at (some_number c.in_err-check_bounds.field-0.0)))

pub identity_length-identity-requires : goal.identity_length-identity-requires
identity_length-identity-requires c =
    let h = kept c.args.platform c.args.root c.args.options c.in_ok-check_bounds.ensures in (h.platform-short, h.root-short, c.requires.0, c.requires.1)

pub cache_size-size-requires : goal.cache_size-size-requires
cache_size-size-requires c =
    let h = kept c.args.platform c.args.root c.args.options c.in_ok-check_bounds.ensures in
    (omega (arith, h.platform-short, h.root-short, c.identity_length-identity.ensures), omega arith, c.requires.2, c.requires.3)

pub check_limits-requires : goal.check_limits-requires
check_limits-requires c =
    let h = kept c.args.platform c.args.root c.args.options c.in_ok-check_bounds.ensures in
    let k = rows_in c.args.rows c.args.dimensions c.requires.2 c.requires.3 in
    (c.requires.2, c.requires.3, omega (arith, h.platform-short, h.root-short, k, c.cache_size-size.ensures, c.identity_length-identity.ensures))

pub returns : goal.returns
unfolding sizing_number
returns c =
    let e = rw c.row_length.ensures at c.in_ok-check_bounds.ensures in
    rw (eq-eqb _ 0 (sym e)) (c.check_limits.ensures ∙ rw (c.cache_size-size.ensures, c.identity_length-identity.ensures))
