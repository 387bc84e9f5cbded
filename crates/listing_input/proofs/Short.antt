-- What is known of files that are not too long.
use mathlib.Core.Path.{◌≡◌, refl}
use mathlib.Core.Bool.{Bool, true, false, ◌||◌, true≢false}
use Prim.Native.Nat.{ℕ, ◌≤◌}
use native.Mathlib.Omega.{arith}
use lib.ListN.{length}
use borrow.Author.Tests.{ltb-false}
use Rattle.std.specs.Prelude.{None, Some, Ok}
use Rattle.le.proofs.Chain.{past}
use Rattle.listing_input.specs.Parts.{max_file_bytes}
use Rattle.listing_input.specs.Files.{File, Files, bytes_of, some, overlong, is_too_long, input_of}

abbrev pub IsShort : File → Type 0
IsShort file = length (bytes_of file) ≤ max_file_bytes

pub record Short (f : Files) : Type 0 where
  pub manifest : IsShort f.manifest
  pub query : IsShort f.query

neither : (a b : Bool) → (a || b) ≡ false → (a ≡ false) × (b ≡ false)
neither true b h = absurd (true≢false h)
neither false b h = (refl, h)

short_file : (file : File) → overlong file ≡ false → IsShort file
short_file None h = omega arith
short_file (Some b) h = ltb-false max_file_bytes (length b) h

pub short : (f : Files) → is_too_long f ≡ false → Short f
unfolding is_too_long some
short f h =
    let p = neither _ (overlong f.place) h in
    let c = neither _ (overlong f.call) p.0 in
    let q = neither _ (overlong f.query) c.0 in
    let k = neither _ (overlong f.cache) q.0 in
    let s = neither (overlong f.manifest) (overlong f.segments) k.0 in
    record { manifest = short_file f.manifest s.0; query = short_file f.query q.1 }

pub whole-short : (f : Files) → input_of f ≡ Ok tt → Short f
unfolding input_of
whole-short f e = short f (past (is_too_long f) (λ z. let n : ◌≡◌ {A = ℕ} 0 1 = cc in omega arith) e).0
