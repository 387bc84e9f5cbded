-- A record that passes its test, part by part.
use mathlib.Core.Path.{◌≡◌}
use mathlib.Core.Bool.{true, ◌&&◌}
use mathlib.Core.List.{List}
use Prim.Native.Nat.{ℕ, ◌+◌, ◌*◌, ◌≤◌}
use native.Mathlib.Omega.{arith}
use lib.Dec.{leb, eqb}
use lib.ListN.{length}
use borrow.Author.Tests.{leb-true, eqb-true}
use Rattle.le.specs.Le.{le_at}
use Rattle.utf8.specs.Utf8.{valid}
use Rattle.config.specs.Vector.{finites, valid_vector}
use Rattle.config.proofs.Coordinates.{valid_parts}
use Rattle.format.specs.Fields.{dimensions_of, metric_at, record_length, id_at, metadata_at}
use Rattle.format.proofs.Heads.{both}
use Rattle.segment.specs.Record.{record_at, vector_of, metadata_bytes, parts_ok, record_ok}

pub record Good (m s : List ℕ) (r : ℕ) : Type 0 where
  pub ends : record_at m r + record_length m r ≤ length s
  pub id : le_at 8 s (record_at m r) ≡ id_at m r
  pub metadata : le_at 4 s (record_at m r + 8) ≡ metadata_at m r
  pub vector : valid_vector (metric_at m) (dimensions_of m) (vector_of m s r) ≡ true
  pub text : valid (metadata_bytes m s r) ≡ true
  -- so that its coordinates can be read
  pub inside : record_at m r + 12 + 4 * dimensions_of m ≤ length s
  pub fine : finites (vector_of m s r) ≡ true

pub good : (m s : List ℕ) (r : ℕ) → record_ok m s r ≡ true → Good m s r
unfolding record_ok parts_ok record_length
good m s r h =
    let at = record_at m r in
    let id = eqb (le_at 8 s at) (id_at m r) in
    let size = eqb (le_at 4 s (at + 8)) (metadata_at m r) in
    let vector = valid_vector (metric_at m) (dimensions_of m) (vector_of m s r) in
    let a = both {a = leb (at + record_length m r) (length s)} h in
    let b = both {a = id && size && vector} {b = valid (metadata_bytes m s r)} a.1 in
    let c = both {a = id && size} b.0 in
    let d = both {a = id} {b = size} c.0 in
    let l = leb-true (at + record_length m r) (length s) a.0 in
    record {
      ends = l;
      id = eqb-true (le_at 8 s at) (id_at m r) d.0;
      metadata = eqb-true (le_at 4 s (at + 8)) (metadata_at m r) d.1;
      vector = c.1;
      text = b.1;
      inside = omega (arith, l);
      fine = (valid_parts (metric_at m) (dimensions_of m) (vector_of m s r) c.1).1;
    }
