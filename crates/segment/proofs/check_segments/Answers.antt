use native.Mathlib.Omega.{arith}
use mathlib.Core.Path.{◌≡◌, ap, ◌∙◌}
use mathlib.Core.List.{List}
use Prim.Native.Nat.{ℕ}
use lib.ListN.{length, get_or}
use borrow.Author.Tests.{eq-eqb, ne_eqb}
use Rattle.format.specs.Fields.{segments_of}
use Rattle.format.specs.declared.Manifest.{Manifest}
use Rattle.entries.proofs.Entries.{lengths_of}
use Rattle.segment.specs.Record.{start_of, starts_of}
use Rattle.segment.specs.Check.{segments_refusal}
use Rattle.segment.proofs.Places.{start-at}
use Rattle.segment.proofs.check_segments.Goals as goal

-- where the last segment ends
end : (m : Manifest) {t : List ℕ} → t ≡ starts_of m.bytes.now → get_or t m.layout.segments 0 ≡ start_of m.bytes.now (segments_of m.bytes.now)
end m {t} e =
    ap (λ n. get_or t n 0) m.laid_out.segments ∙ start-at m.bytes.now e (segments_of m.bytes.now) (omega arith)

pub starts-starts-requires : goal.starts-starts-requires
starts-starts-requires c = lengths_of c.args.accepted.manifest.bytes.now c.args.accepted.rows

pub returns-then-segments-starts : goal.returns-then-segments-starts
unfolding segments_refusal
returns-then-segments-starts c =
    let m = c.args.accepted.manifest.bytes.now in
    let e = rw (end c.args.accepted.manifest c.starts-starts.ensures) at c.if-segments-starts.true in
    rw (ne_eqb (length c.args.segments.now) (start_of m (segments_of m)) e)

pub check_in_order-requires : goal.check_in_order-requires
check_in_order-requires c = (c.args.accepted.order, rw (end c.args.accepted.manifest c.starts-starts.ensures) at c.if-segments-starts.false)

pub returns : goal.returns
unfolding segments_refusal
returns c =
    let m = c.args.accepted.manifest.bytes.now in
    let e = rw (end c.args.accepted.manifest c.starts-starts.ensures) at c.if-segments-starts.false in
    rw (eq-eqb (length c.args.segments.now) (start_of m (segments_of m)) e) c.check_in_order.ensures
