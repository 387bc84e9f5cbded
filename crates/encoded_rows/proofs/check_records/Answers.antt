use native.Mathlib.Omega.{arith}
use mathlib.Core.Path.{sym}
use Rattle.config.specs.Refusal.{none}
use Rattle.config.proofs.Refusals.{all_hold, one_fails}
use Rattle.format.specs.Fields.{rows_of}
use Rattle.format.proofs.First.{first-within}
use Rattle.segment.specs.Record.{record_ok}
use Rattle.segment.proofs.Found.{some_found, nothing_found}
use Rattle.encoded_rows.specs.Rows.{lowest_bad, bad_record_refusal}
use Rattle.encoded_rows.proofs.check_records.Goals as goal

pub returns-in-Some : goal.returns-in-Some
unfolding bad_record_refusal
returns-in-Some c =
    let m = c.args.library.now.manifest.bytes.now in
    let s = c.args.library.now.segments.now in
    let b = some_found (first-within (record_ok m s) (rows_of m)) c.in-Some.ensures in
    rw (one_fails 5 (lowest_bad m s) (rows_of m) none (λ q. omega (arith, b.1, q)), ← b.0)

pub returns-in-None : goal.returns-in-None
unfolding bad_record_refusal
returns-in-None c =
    let m = c.args.library.now.manifest.bytes.now in
    let s = c.args.library.now.segments.now in
    sym (all_hold 5 (lowest_bad m s) (rows_of m) none (nothing_found c.in-None.ensures))
