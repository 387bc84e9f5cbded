use native.Mathlib.Omega.{arith}
use mathlib.Core.Path.{◌≡◌}
use Prim.Native.Nat.{ℕ, ◌+◌, ◌-◌, ◌<◌}
use lib.ListN.{length, get_or}
use Rattle.format.specs.Fields.{segments_of, length_of}
use Rattle.entries.proofs.Entries.{lengths_of}
use Rattle.segment.specs.Record.{start_of}
use Rattle.segment.specs.Check.{segment_crc_ok}
use Rattle.segment.specs.declared.Library.{Library}
use Rattle.segment.proofs.Places.{start-at, Ends, ends}
use Rattle.segment.proofs.Library.crc_holds.Goals as goal

-- where the segment lies
lies : (x : Library) (n : ℕ) → n < x.manifest.layout.segments → length x.segments.now ≡ start_of x.manifest.bytes.now (segments_of x.manifest.bytes.now)
    → (get_or x.starts.now n 0 ≡ start_of x.manifest.bytes.now n) × Ends x.manifest.bytes.now n (length x.segments.now)
lies x n h e =
    let m = x.manifest.bytes.now in
    let p = x.manifest.laid_out in
    (start-at m x.placed n (omega (arith, p.segments, h)), ends m x.manifest.layout p (lengths_of m x.rows) n (length x.segments.now) h e)

pub overflow_sub-end : goal.overflow_sub-end
overflow_sub-end c = let h = (lies c.args.self.now c.args.n c.requires.0 c.requires.1).1 in omega (arith, h.long, c.segment_length.ensures)

pub overflow_add-end : goal.overflow_add-end
overflow_add-end c =
    let h = lies c.args.self.now c.args.n c.requires.0 c.requires.1 in omega (arith, h.0, h.1.within, h.1.bound, h.1.long, c.segment_length.ensures)

pub slice_bounds-crc32-end : goal.slice_bounds-crc32-end
slice_bounds-crc32-end c =
    let h = lies c.args.self.now c.args.n c.requires.0 c.requires.1 in omega (arith, h.0, h.1.within, h.1.long, c.segment_length.ensures)

pub u32_at-requires : goal.u32_at-requires
u32_at-requires c =
    let h = lies c.args.self.now c.args.n c.requires.0 c.requires.1 in omega (arith, h.0, h.1.within, h.1.long, c.segment_length.ensures)

pub returns : goal.returns
unfolding segment_crc_ok
returns c =
    let m = c.args.self.now.manifest.bytes.now in
    let h = lies c.args.self.now c.args.n c.requires.0 c.requires.1 in
    let e : (start_of m c.args.n + (length_of m c.args.n - 4)) - start_of m c.args.n ≡ length_of m c.args.n - 4 = omega arith in
    rw (c.segment_crc.ensures, c.u32_at.ensures, c.crc32-crc.ensures, c.segment_length.ensures, h.0, e)
