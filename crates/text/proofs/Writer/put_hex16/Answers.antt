use mathlib.Core.Path.{◌∙◌}
use native.Mathlib.Omega.{arith}
use Rattle.text.proofs.Hex.{io_hex16}
use Rattle.text.proofs.Puts.{wrote_same}
use Rattle.text.proofs.Writer.put_hex16.Goals as goal

pub put_bytes-requires : goal.put_bytes-requires
put_bytes-requires c =
    let d = c.hex-k in
    rw (d.ensures.digits ∙ io_hex16 c.args.x d.result (omega arith) d.ensures.len) c.requires

pub returns-clause-wrote : goal.returns-clause-wrote
returns-clause-wrote c =
    let d = c.hex-k in
    wrote_same (d.ensures.digits ∙ io_hex16 c.args.x d.result (omega arith) d.ensures.len) c.put_bytes.ensures.wrote
