use mathlib.Core.Path.{◌≡◌}
use Rattle.quantization.specs.Encoder.{midpoints_of}
use Rattle.resident.specs.Build.{codes_upto, scales_upto, norms_upto}
use Rattle.resident.proofs.fill.Given as goal

abbrev pub invariant-loop-row : goal.invariant-loop-row
invariant-loop-row l =
    let g = l.encoder.levels in
    let m = l.library.manifest.bytes.now in
    let s = l.library.segments.now in
    record {
      codes : l.codes ≡ codes_upto g (midpoints_of g) m s l.row l.initial.codes;
      scales : l.scales ≡ scales_upto g (midpoints_of g) m s l.row l.initial.scales;
      norms : l.norms ≡ norms_upto g (midpoints_of g) m s l.row l.initial.norms;
    }
