use mathlib.Core.Path.{◌∙◌}
use Rattle.text.proofs.Decimal.{io_decimal}
use Rattle.text.proofs.Puts.{wrote_same}
use Rattle.text.proofs.Writer.put_decimal.Goals as goal

pub put_bytes-requires : goal.put_bytes-requires
put_bytes-requires c =
    let d = c.decimal-k in
    rw (d.ensures.digits ∙ io_decimal d.result c.args.x d.ensures.len) c.requires

pub returns-clause-wrote : goal.returns-clause-wrote
returns-clause-wrote c =
    let d = c.decimal-k in
    wrote_same (d.ensures.digits ∙ io_decimal d.result c.args.x d.ensures.len) c.put_bytes.ensures.wrote
