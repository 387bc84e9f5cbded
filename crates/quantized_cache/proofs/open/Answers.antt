use mathlib.Core.Path.{sym}
use lib.ListN.{length}
use borrow.Author.Tests.{ne_eqb}
use Rattle.std.proofs.lemmas.Result.{err_from_is_err_and}
use Rattle.config.proofs.Numbers.{some_number}
use Rattle.quantized_cache.specs.Open.{open_refusal, opened_by}
use Rattle.quantized_cache.proofs.Opens.{head_passed}
use Rattle.quantized_cache.proofs.open.Goals as goal

pub returns-in_err-m : goal.returns-in_err-m
unfolding open_refusal opened_by
returns-in_err-m c =
    let p = err_from_is_err_and c.from_residual.result c.from_residual.ensures.1 in
    let n = ne_eqb _ 0 (some_number c.in_err-m.field-0.0) in
    (rw (p.1, p.2, ← c.in_err-m.ensures.told, n, n), c.open_head.ensures.scratch_after)

pub check_rows-requires : goal.check_rows-requires
check_rows-requires c =
    let a = c.args in
    let k = c.in_ok-m.ensures in
    rw k.bytes (head_passed a.manifest.now a.expected_crc (length a.scratch.now) a.cache.now a.location.platform.now a.location.root.now a.options (sym k.told)).rows

pub returns-in_err-check_rows : goal.returns-in_err-check_rows
unfolding open_refusal opened_by
returns-in_err-check_rows c =
    let p = err_from_is_err_and c.from_residual-in_err-check_rows.result c.from_residual-in_err-check_rows.ensures.1 in
    let k = c.in_ok-m.ensures in
    let e = rw k.bytes at c.in_err-check_rows.ensures in
    (rw (p.1, p.2, ← k.told, ← e, ne_eqb _ 0 (some_number c.in_err-check_rows.field-0.0.number)), c.open_head.ensures.scratch_after)

pub head-requires : goal.head-requires
head-requires c =
    let a = c.args in
    let k = c.in_ok-m.ensures in
    rw k.bytes (head_passed a.manifest.now a.expected_crc (length a.scratch.now) a.cache.now a.location.platform.now a.location.root.now a.options (sym k.told)).library.manifest.head

pub returns : goal.returns
unfolding open_refusal opened_by
returns c =
    let k = c.in_ok-m.ensures in
    let e = rw k.bytes at c.in_ok-check_rows.ensures in
    (rw (← k.told, ← e, c.head.ensures, k.bytes), c.open_head.ensures.scratch_after)
