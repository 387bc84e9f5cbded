use mathlib.Core.Path.{sym}
use borrow.Author.Tests.{eq-eqb, ne_eqb, le-leb, lt-leb}
use Rattle.format.specs.Fields.{rows_of}
use Rattle.format.specs.Head.{head_number}
use Rattle.entries.specs.Plan.{plan_number}
use Rattle.std.proofs.lemmas.Result.{err_from_is_err_and}
use Rattle.config.proofs.Numbers.{some_number}
use Rattle.entries.proofs.plan.Goals as goal

pub returns-in_err-manifest-clause-told : goal.returns-in_err-manifest-clause-told
unfolding plan_number
returns-in_err-manifest-clause-told c =
    let p = err_from_is_err_and c.from_residual.result c.from_residual.ensures.1 in
    rw (p.1, p.2, c.in_err-manifest.ensures.told, ne_eqb _ 0 (rw c.in_err-manifest.ensures.told at (some_number c.in_err-manifest.field-0.0)))

pub returns-then-not-rows_hold-clause-told : goal.returns-then-not-rows_hold-clause-told
unfolding plan_number
returns-then-not-rows_hold-clause-told c =
    let m = c.args.m.now in
    let r = rw (c.rows_hold.ensures, c.in_ok-manifest.ensures.bytes) at c.if-not-rows_hold.true in
    rw (eq-eqb (head_number m) 0 (sym c.in_ok-manifest.ensures.told), r)

pub returns-then-not-crc_holds-clause-told : goal.returns-then-not-crc_holds-clause-told
unfolding plan_number
returns-then-not-crc_holds-clause-told c =
    let m = c.args.m.now in
    let r = rw (c.rows_hold.ensures, c.in_ok-manifest.ensures.bytes) at c.if-not-rows_hold.false in
    let s = rw (c.crc_holds.ensures, c.in_ok-manifest.ensures.bytes) at c.if-not-crc_holds.true in
    rw (eq-eqb (head_number m) 0 (sym c.in_ok-manifest.ensures.told), r, s)

pub returns-then-room-manifest-clause-told : goal.returns-then-room-manifest-clause-told
unfolding plan_number
returns-then-room-manifest-clause-told c =
    let m = c.args.m.now in
    let r = rw (c.rows_hold.ensures, c.in_ok-manifest.ensures.bytes) at c.if-not-rows_hold.false in
    let s = rw (c.crc_holds.ensures, c.in_ok-manifest.ensures.bytes) at c.if-not-crc_holds.false in
    let t = rw (c.in_ok-manifest.manifest.laid_out.rows, c.in_ok-manifest.ensures.bytes) at c.if-room-manifest.true in
    rw (eq-eqb (head_number m) 0 (sym c.in_ok-manifest.ensures.told), r, s, lt-leb (rows_of m) c.args.room t)

pub returns-clause-told : goal.returns-clause-told
unfolding plan_number
returns-clause-told c =
    let m = c.args.m.now in
    let r = rw (c.rows_hold.ensures, c.in_ok-manifest.ensures.bytes) at c.if-not-rows_hold.false in
    let s = rw (c.crc_holds.ensures, c.in_ok-manifest.ensures.bytes) at c.if-not-crc_holds.false in
    let t = rw (c.in_ok-manifest.manifest.laid_out.rows, c.in_ok-manifest.ensures.bytes) at c.if-room-manifest.false in
    rw (eq-eqb (head_number m) 0 (sym c.in_ok-manifest.ensures.told), r, s, le-leb (rows_of m) c.args.room t)
