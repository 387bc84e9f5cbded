use mathlib.Core.Path.{◌≡◌}
use mathlib.Core.List.{map}
use Prim.Native.Nat.{◌<◌}
use lib.ListN.{drop}
use Rattle.manifest.specs.Tiling.{follow}
use Rattle.manifest.specs.Scratch.{key_row}
use Rattle.manifest.proofs.covers.Given as goal

abbrev pub invariant-loop-key : goal.invariant-loop-key
invariant-loop-key l = record {
  near : l.at < 8589967360;
  so : follow l.m.bytes.now l.length l.at (map key_row (drop l.key-index l.keys)) ≡ follow l.m.bytes.now l.length 0 (map key_row l.keys);
}
