use Rattle.codes.proofs.Rows.{cut_bytes}
use Rattle.bench_exports.proofs.Out.{stored}
use Rattle.bench_exports.proofs.pv_row_check.Goals as goal

pub returns : goal.returns
returns c =
    let a = c.args in
    let r = rw (cut_bytes a.c.now a.at a.n) at c.row_check-t.ensures in
    let parts = stored a.out.now c.requires.2 r.squared r.whole in
    record { out_after = parts.0; out_after_2 = parts.1 }
