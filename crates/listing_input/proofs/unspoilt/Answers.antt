use Rattle.listing_input.specs.Files.{files_of}
use Rattle.listing_input.proofs.Short.{short}
use Rattle.listing_input.proofs.unspoilt.Goals as goal

pub invariant_of-result-clause-manifest_short : goal.invariant_of-result-clause-manifest_short
invariant_of-result-clause-manifest_short c =
    let s = short (files_of c.args.files.now) c.requires in rw c.in_ok-manifest.was at s.manifest

pub invariant_of-result-clause-query_short : goal.invariant_of-result-clause-query_short
invariant_of-result-clause-query_short c =
    let s = short (files_of c.args.files.now) c.requires in rw c.in_ok-query.was at s.query
