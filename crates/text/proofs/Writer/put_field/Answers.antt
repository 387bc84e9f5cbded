use Rattle.text.specs.Digits.{decimal}
use Rattle.text.proofs.Puts.{wrote_then, room_then, room_first}
use Rattle.text.proofs.Writer.put_field.Goals as goal

pub put_bytes-requires : goal.put_bytes-requires
put_bytes-requires c = room_first c.args.self.now c.args.word.now (decimal c.args.x) c.requires

pub put_decimal-requires : goal.put_decimal-requires
put_decimal-requires c = room_then (decimal c.args.x) c.requires c.put_bytes.ensures.wrote

pub returns-clause-wrote : goal.returns-clause-wrote
returns-clause-wrote c = wrote_then c.put_bytes.ensures.wrote c.put_decimal.ensures.wrote
