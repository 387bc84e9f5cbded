use native.Mathlib.Omega.{arith}
use Rattle.entries.proofs.Entries.{entry_keeps}
use Rattle.answers.specs.Places.{place_by}
use Rattle.answers.proofs.place_of.Goals as goal

pub metadata_start-requires : goal.metadata_start-requires
metadata_start-requires c =
    let e = c.records.ensures in
    let x = c.args.library.now in
    rw (e.0, e.1) (c.requires, entry_keeps x.manifest.bytes.now c.args.row x.rows (omega (arith, c.requires, x.manifest.laid_out.rows)))

pub returns : goal.returns
unfolding place_by
returns c = rw (c.read_entry-e.ensures, c.value_of_key.ensures, c.metadata_start.ensures, c.records.ensures.0)
