use mathlib.Core.Path.{◌≡◌}
use mathlib.Core.Bool.{Bool, true, false, not}
use Prim.Native.Nat.{ℕ}
use lib.Dec.{eqb}
use Rattle.std.specs.Option.{is_some}
use Rattle.le.proofs.Chain.{by}
use Rattle.config.specs.Told.{found}
use Rattle.format.specs.Fields.{rows_of}
use Rattle.entries.specs.Plan.{bad_entry, rows_ok}
use Rattle.entries.proofs.rows_hold.Goals as goal

-- nothing is found where the first of n is n
nothing : (n i : ℕ) (b : Bool) → is_some (found n i) ≡ not b → b ≡ eqb i n
nothing n i true h = by (eqb i n) (λ e. rw e) (λ e. let f : true ≡ false = rw e at h in cc)
nothing n i false h = by (eqb i n) (λ e. let f : false ≡ true = rw e at h in cc) (λ e. rw e)

pub returns : goal.returns
unfolding rows_ok
returns c =
    let m = c.args.m.bytes.now in
    rw (c.lengths_hold.ensures, nothing (rows_of m) (bad_entry m) c.is_none.result (rw c.bad_entry.ensures at c.is_none.ensures))
