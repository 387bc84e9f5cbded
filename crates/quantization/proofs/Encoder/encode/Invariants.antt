use mathlib.Core.List.{map}
use lib.Ieee.{binary32, of_bits}
use Rattle.quantization.specs.Encoder.{midpoints_of}
use Rattle.quantization.proofs.Stores.{Stored}
use Rattle.quantization.proofs.Encoder.encode.Given as goal

abbrev pub invariant-loop-i : goal.invariant-loop-i
invariant-loop-i g l =
    Stored l.self.levels (midpoints_of l.self.levels) g.C.Stored.stored (map (of_bits binary32) (g.S.Source.patterns l.source)) l.initial.out l.scale l.i l.norm l.out
